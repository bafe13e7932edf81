-- One point more in a set, or fewer, and one word more.
use Rattle.std.specs.Int.{bit_at, bit_not}
use Rattle.std.specs.Int.RustNames.{bit_or}
use Rattle.std.specs.Prelude.{◌⊎◌, ◌↔◌, slice_set}
use Rattle.std.proofs.Common.{ℕ, ◌*◌, ◌/◌, ◌%◌, ◌^◌, ◌<◌, ◌≡◌, ◌≢◌, inl, inr, refl, sym, ap, bit_and, ◌∙◌, subst, arith, List, slice_index, w64, length}
use Rattle.std.proofs.lemmas.Bool.{cases_eq}
use Rattle.std.proofs.lemmas.List.{get_or-set_same, get_or-set_other}
use Rattle.std.proofs.lemmas.Nat.Bits.{bit_at_set_same, bit_at_set_other, bit_at_clear_same, bit_at_clear_other}
use Rattle.go_board.specs.PointSets.{HasPoint, bit_of}
use Rattle.go_board.proofs.RowBits.{from_or, or_left, or_right}

-- a set with one word written anew
module _ (words : List ℕ) (place value : ℕ) (long : place < length words) where
  at_word : (q : ℕ) → q / 64 ≡ place → bit_of (slice_set words place value) q ≡ bit_at value (q % 64)
  at_word q same = ap (λ x. bit_at x (q % 64))
      (ap (slice_index (slice_set words place value)) same ∙ get_or-set_same words place value 0 long)

  off_word : (q : ℕ) → q / 64 ≢ place → bit_of (slice_set words place value) q ≡ bit_of words q
  off_word q off = ap (λ x. bit_at x (q % 64)) (get_or-set_other words place (q / 64) value 0 off)

-- a set with a point put in
module _ (words : List ℕ) (p : ℕ) (long : p / 64 < length words) where
  abbrev put : List ℕ
  put = slice_set words (p / 64) (bit_or (slice_index words (p / 64)) (1 * 2 ^ (p % 64) % 2 ^ 64))

  put_same : bit_of put p ≡ 1
  put_same = at_word words (p / 64) _ long p refl
      ∙ bit_at_set_same w64 (slice_index words (p / 64)) (p % 64) (omega arith)

  put_other : (q : ℕ) → q ≢ p → bit_of put q ≡ bit_of words q
  put_other q off = elim (cases_eq (q / 64) (p / 64)) [
    | inl same ↦
        let not_bit : q % 64 ≢ p % 64 = λ e. off (omega arith) in
        at_word words (p / 64) _ long q same
        ∙ bit_at_set_other w64 (slice_index words (p / 64)) (p % 64) (omega arith) (q % 64) not_bit
        ∙ ap (λ k. bit_at (slice_index words k) (q % 64)) (sym same)
    | inr different ↦ off_word words (p / 64) _ long q different
  ]

  put_one : (q : ℕ) → HasPoint put q ↔ ((q ≡ p) ⊎ HasPoint words q)
  put_one q = elim (cases_eq q p) [
    | inl at ↦ (λ set. inl at, λ either. ap (bit_of put) at ∙ put_same)
    | inr off ↦ (
      λ set. inr (sym (put_other q off) ∙ set),
      λ either.
          elim either [ inl at ↦ absurd (off at) | inr had ↦ put_other q off ∙ had ],
    )
  ]

  pub put_is : (now : List ℕ) → words ≡ now → (q : ℕ) → HasPoint put q ↔ ((q ≡ p) ⊎ HasPoint now q)
  put_is now value q = subst (λ (ws : List ℕ). HasPoint put q ↔ ((q ≡ p) ⊎ HasPoint ws q)) value (put_one q)

-- a set with a point taken out
module _ (words : List ℕ) (p : ℕ) (long : p / 64 < length words) where
  abbrev left : List ℕ
  left = slice_set words (p / 64) (bit_and (slice_index words (p / 64)) (bit_not w64 (1 * 2 ^ (p % 64) % 2 ^ 64)))

  left_one : (q : ℕ) → HasPoint left q ↔ ((q ≢ p) × HasPoint words q)
  left_one q =
      let word = slice_index words (p / 64) in
      elim (cases_eq (q / 64) (p / 64)) [
        | inl same ↦ elim (cases_eq (q % 64) (p % 64)) [
          | inl bit ↦
              let gone = at_word words (p / 64) _ long q same ∙ ap (bit_at _) bit
              ∙ bit_at_clear_same w64 word (p % 64) (omega arith) in (
                λ set. absurd (omega (arith, gone, set)),
                λ both. absurd (both.0 (omega (arith, same, bit))),
              )
          | inr other ↦
              let is = at_word words (p / 64) _ long q same
              ∙ bit_at_clear_other w64 word (p % 64) (omega arith) (q % 64) (omega arith) other
              ∙ ap (λ k. bit_at (slice_index words k) (q % 64)) (sym same) in (
                λ set. ((λ e. other (ap (λ k. k % 64) e)), sym is ∙ set),
                λ both. is ∙ both.1,
              )
        ]
        | inr off ↦
            let is = off_word words (p / 64) _ long q off in (
              λ set. ((λ e. off (ap (λ k. k / 64) e)), sym is ∙ set),
              λ both. is ∙ both.1,
            )
      ]

  pub left_is : (now : List ℕ) → words ≡ now → (q : ℕ) → HasPoint left q ↔ ((q ≢ p) × HasPoint now q)
  left_is now value q = subst (λ (ws : List ℕ). HasPoint left q ↔ ((q ≢ p) × HasPoint ws q)) value (left_one q)

-- a set with the points of a word put in
module _ (words : List ℕ) (place bits : ℕ) (long : place < length words) where
  abbrev wide : List ℕ
  wide = slice_set words place (bit_or (slice_index words place) bits)

  word_one : (q : ℕ) → HasPoint wide q ↔ (((q / 64 ≡ place) × (bit_at bits (q % 64) ≡ 1)) ⊎ HasPoint words q)
  word_one q =
      let word = slice_index words place in
      let own : (k : ℕ) → k ≡ q / 64 → bit_at (slice_index words k) (q % 64) ≡ bit_of words q = λ k e.
      ap (λ w. bit_at (slice_index words w) (q % 64)) e in
      elim (cases_eq (q / 64) place) [
        | inl same ↦
            let is = at_word words place (bit_or word bits) long q same in (
              λ set. elim (from_or word bits (q % 64) (sym is ∙ set))
                  [ inl had ↦ inr (sym (own place (sym same)) ∙ had) | inr new ↦ inl (same, new) ],
              λ either. is ∙ elim either [
                | inl new ↦ or_right word bits (q % 64) new.1
                | inr had ↦
                    or_left word bits (q % 64) (own place (sym same) ∙ had)
              ],
            )
        | inr off ↦
            let is = off_word words place (bit_or word bits) long q off in (
              λ set. inr (sym is ∙ set),
              λ either. is ∙ elim either [ inl new ↦ absurd (off new.0) | inr had ↦ had ],
            )
      ]

  pub word_put : (now : List ℕ) → words ≡ now → (q : ℕ) → HasPoint wide q
      ↔ (((q / 64 ≡ place) × (bit_at bits (q % 64) ≡ 1)) ⊎ HasPoint now q)
  word_put now value q = subst (λ (ws : List ℕ). HasPoint wide q
      ↔ (((q / 64 ≡ place) × (bit_at bits (q % 64) ≡ 1)) ⊎ HasPoint ws q)) value (word_one q)
