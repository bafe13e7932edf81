-- Sets of places as rows of bits, for proofs: one row more, and a set with no place.
use Rattle.std.specs.Int.{bit_at}
use Rattle.std.proofs.Common.{arith, ◌≡◌, ◌<◌, ◌+◌, ◌∙◌, ◌↔◌, inl, inr, ℕ, List, length, sym, ap, subst, slice_index, slice_set, replicate}
use Rattle.std.proofs.lemmas.Bool.{cases_eq, cases_lt}
use Rattle.std.proofs.lemmas.List.{get_or-replicate, get_or-set_same, get_or-set_other, get_or_past, length-replicate}
use Rattle.std.proofs.lemmas.Nat.Bits.{bit_at-zero}

-- one row more of a set
pub rows_more : (Q : ℕ → ℕ → Type 0) (n k word : ℕ) (rows : List ℕ) → k < length rows →
    ((row col : ℕ) → (bit_at (slice_index rows row) col ≡ 1) ↔ ((row < k) × (col < n) × Q row col))
    → ((col : ℕ) → (bit_at word col ≡ 1) ↔ ((col < n) × Q k col)) → (row col : ℕ) →
    (bit_at (slice_index (slice_set rows k word) row) col ≡ 1) ↔ ((row < k + 1) × (col < n) × Q row col)
rows_more Q n k word rows within before here row col = elim (cases_eq row k) [
  | inl same ↦
      let at : slice_index (slice_set rows k word) row ≡ word = ap (slice_index (slice_set rows k word)) same
      ∙ get_or-set_same rows k word 0 within in (
        λ set. let h = (here col).0 (sym (ap (λ w. bit_at w col) at) ∙ set) in
            (omega arith, h.0, subst (λ (r : ℕ). Q r col) (sym same) h.1),
        λ h. ap (λ w. bit_at w col) at ∙ (here col).1 (h.1, subst (λ (r : ℕ). Q r col) same h.2),
      )
  | inr off ↦
      let at : slice_index (slice_set rows k word) row ≡ slice_index rows row =
      get_or-set_other rows k row word 0 off in (
        λ set. let h = (before row col).0 (sym (ap (λ w. bit_at w col) at) ∙ set) in
            (let low = h.0 in omega arith, h.1, h.2),
        λ h. ap (λ w. bit_at w col) at ∙ (before row col).1 (let low = h.0 in omega arith, h.1, h.2),
      )
]

-- a set of words that are all 0 has no place
pub none_in : (count row col : ℕ) → bit_at (slice_index (replicate count 0) row) col ≡ 1 → ⊥
none_in count row col set =
    let word : slice_index (replicate count 0) row ≡ 0 = elim (cases_lt row count) [
      | inl low ↦ get_or-replicate count row 0 0 low
      | inr past ↦ get_or_past (replicate count 0) row 0 (omega (arith, past, length-replicate {A = ℕ} count 0))
    ] in
    let same : bit_at (slice_index (replicate count 0) row) col ≡ bit_at 0 col = ap (λ w. bit_at w col) word in
    omega (arith, same, set, bit_at-zero col)
