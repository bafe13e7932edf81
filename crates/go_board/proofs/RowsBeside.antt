-- The places beside those of a set, in one row.
use Rattle.std.specs.Int.{bit_at}
use Rattle.std.specs.Int.RustNames.{bit_or}
use Rattle.std.proofs.Common.{arith, ◌≡◌, ◌<◌, ◌+◌, ◌-◌, ◌*◌, ◌/◌, ◌%◌, ◌^◌, ◌∙◌, ◌⊎◌, inl, inr, ℕ, suc, List, refl, sym, ap, slice_index}
use Rattle.std.proofs.lemmas.Nat.Bits.{bit_at-zero}
use Rattle.go_board.specs.inner.Spreading.{HasNext}
use Rattle.go_board.proofs.RowBits.{bit_down, bit_up, from_or, from_up, or_left, or_right}

module _ (rows : List ℕ) (row below above : ℕ)
    (below_is : ((0 < row) × (below ≡ slice_index rows (row - 1))) ⊎ ((row ≡ 0) × (below ≡ 0)))
    (above_is : above ≡ slice_index rows (row + 1)) where
  up : ℕ
  up = slice_index rows row * 2 ^ 1 % 2 ^ 32

  from_row : (col : ℕ) → bit_at (bit_or (slice_index rows row * 2 ^ 1 % 2 ^ 32) (slice_index rows row / 2 ^ 1)) col ≡
      1 → HasNext rows row col
  from_row col set = elim (from_or (slice_index rows row * 2 ^ 1 % 2 ^ 32) (slice_index rows row / 2 ^ 1) col set) [
    | inl left ↦ let j = from_up (slice_index rows row) col left in (row, j.0, inl (refl, inr j.1), j.2)
    | inr right ↦ (
      row,
      col + 1,
      inl (refl, inl refl),
      ap (bit_at (slice_index rows row)) (let e : col + 1 ≡ suc col = omega arith in e)
          ∙ sym (bit_down (slice_index rows row) col) ∙ right,
    )
  ]

  from_below : (col : ℕ) → bit_at below col ≡ 1 → HasNext rows row col
  from_below col set = elim below_is [
    | inl some ↦ (
      row - 1,
      col,
      inr (refl, inr (let some_row = some.0 in omega arith)),
      sym (ap (λ w. bit_at w col) some.1) ∙ set,
    )
    | inr none ↦ absurd (let zero_bit = bit_at-zero col in let same : bit_at below col ≡ bit_at 0 col =
        ap (λ w. bit_at w col) none.1 in omega arith)
  ]

  pub beside_from : (col : ℕ) → bit_at
      (bit_or (bit_or (bit_or (slice_index rows row * 2 ^ 1 % 2 ^ 32) (slice_index rows row / 2 ^ 1)) below) above) col
      ≡ 1 → HasNext rows row col
  beside_from col set = elim (from_or _ above col set) [
    | inl lower ↦ elim (from_or _ below col lower) [ inl same ↦ from_row col same | inr down ↦ from_below col down ]
    | inr over ↦ (row + 1, col, inr (refl, inl refl), sym (ap (λ w. bit_at w col) above_is) ∙ over)
  ]

  left_set : (j col : ℕ) → col < 32 → j + 1 ≡ col → bit_at (slice_index rows row) j ≡ 1 →
      bit_at (slice_index rows row * 2 ^ 1 % 2 ^ 32) col ≡ 1
  left_set j col low next set =
      ap (bit_at (slice_index rows row * 2 ^ 1 % 2 ^ 32)) (let e : col ≡ suc j = omega arith in e)
      ∙ bit_up (slice_index rows row) j (omega arith) ∙ set

  right_set : (j col : ℕ) → col + 1 ≡ j → bit_at (slice_index rows row) j ≡ 1 →
      bit_at (slice_index rows row / 2 ^ 1) col ≡ 1
  right_set j col next set = bit_down (slice_index rows row) col
      ∙ ap (bit_at (slice_index rows row)) (let e : suc col ≡ j = omega arith in e) ∙ set

  below_set : (r col : ℕ) → r + 1 ≡ row → bit_at (slice_index rows r) col ≡ 1 → bit_at below col ≡ 1
  below_set r col next set = elim below_is [
    | inl some ↦ ap (λ w. bit_at w col) (some.1 ∙ ap (slice_index rows) (let e : row - 1 ≡ r = omega arith in e)) ∙ set
    | inr none ↦ absurd (let no_row = none.0 in omega arith)
  ]

  above_set : (r col : ℕ) → row + 1 ≡ r → bit_at (slice_index rows r) col ≡ 1 → bit_at above col ≡ 1
  above_set r col next set = ap (λ w. bit_at w col) (above_is ∙ ap (slice_index rows) next) ∙ set

  pub beside_all : (col : ℕ) → col < 32 → HasNext rows row col →
      bit_at (bit_or (bit_or (bit_or (slice_index rows row * 2 ^ 1 % 2 ^ 32) (slice_index rows row / 2 ^ 1)) below)
      above) col ≡ 1
  beside_all col low (r, j, inl (same, inl right), set) =
      or_left _ above col (or_left _ below col
      (or_right (slice_index rows row * 2 ^ 1 % 2 ^ 32) (slice_index rows row / 2 ^ 1) col
      (right_set j col right (ap (λ k. bit_at (slice_index rows k) j) same ∙ set))))
  beside_all col low (r, j, inl (same, inr left), set) =
      or_left _ above col (or_left _ below col
      (or_left (slice_index rows row * 2 ^ 1 % 2 ^ 32) (slice_index rows row / 2 ^ 1) col
      (left_set j col low left (ap (λ k. bit_at (slice_index rows k) j) same ∙ set))))
  beside_all col low (r, j, inr (same, inl over), set) =
      or_right _ above col (above_set r col over (ap (bit_at (slice_index rows r)) same ∙ set))
  beside_all col low (r, j, inr (same, inr under), set) =
      or_left _ above col (or_right _ below col (below_set r col under (ap (bit_at (slice_index rows r)) same ∙ set)))
