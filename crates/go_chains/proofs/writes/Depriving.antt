-- A point that is taken out of liberties, and words of liberties written for a label.
use Rattle.std.specs.Int.{bit_at, bit_not}
use Rattle.std.specs.Prelude.{bit_and}
use Rattle.std.proofs.Common.{ℕ, ◌+◌, ◌*◌, ◌/◌, ◌%◌, ◌^◌, ◌<◌, ◌≡◌, ◌≢◌, inl, inr, sym, ap, ◌∙◌, subst, arith, List, slice_index, w64}
use Rattle.std.proofs.lemmas.Bool.{cases_lt, cases_eq}
use Rattle.std.proofs.lemmas.Nat.Bits.{bit_at-lt, bit_at_clear_other, bit_at_clear_same}
use Rattle.go_board.specs.declared.size.TheConstants.{MAX_POINTS}
use Rattle.go_chains.specs.declared.cells.TheConstants.{LIBERTIES}
use Rattle.go_board.specs.declared.point_set.TheConstants.{WORDS}
use Rattle.go_chains.specs.Cells.{code_at, label_of, lib_of, word_of}
use Rattle.go_chains.specs.inner.Writes.{IsWritten}
use Rattle.go_chains.specs.inner.Writes.{IsDeprived, IsFilled, IsStoneBeside}

-- a bit that isn't set is 0
pub unset : (n i : ℕ) → bit_at n i ≢ 1 → bit_at n i ≡ 0
unset n i not = let b : bit_at n i < 2 = bit_at-lt n i in omega arith

-- another word of liberties than the one written
pub word_apart : (old new : List ℕ) (label word value l w : ℕ) → word < WORDS → w < WORDS →
    IsWritten old new (LIBERTIES + WORDS * label + word) value
    → (l ≡ label → w ≡ word → ⊥) → word_of new l w ≡ word_of old l w
word_apart old new label word value l w word_in w_in written differ =
    written.others (LIBERTIES + WORDS * l + w) (λ e. differ (omega arith) (omega arith))

module _ (old new : List ℕ) (label point word : ℕ) (label_in : label < MAX_POINTS) (point_in : point < MAX_POINTS)
    (word_is : word ≡ word_of old label (point / 64))
    (written : IsWritten old new (LIBERTIES + WORDS * label + point / 64)
    (bit_and word (bit_not w64 (1 * 2 ^ (point % 64) % 2 ^ 64)))) where
  in_word : (q : ℕ) → q < MAX_POINTS → q / 64 < WORDS
  in_word q q_in = omega arith

  kept_of : (l q : ℕ) → q < MAX_POINTS → (l ≡ label → q ≢ point) → lib_of new l q ≡ lib_of old l q
  kept_of l q q_in off = elim (cases_eq l label) [
    | inl same_label ↦ elim (cases_eq (q / 64) (point / 64)) [
      | inl same_word ↦
          let differs : q % 64 ≢ point % 64 = λ e. off same_label (omega arith) in
          ap (λ k. bit_at (word_of new k (q / 64)) (q % 64)) same_label
          ∙ ap (λ k. bit_at (word_of new label k) (q % 64)) same_word
          ∙ ap (λ x. bit_at x (q % 64)) written.at
          ∙ bit_at_clear_other w64 word (point % 64) (omega arith) (q % 64) (omega arith) differs
          ∙ ap (λ x. bit_at x (q % 64)) word_is ∙ ap (λ k. bit_at (word_of old label k) (q % 64)) (sym same_word)
          ∙ ap (λ k. bit_at (word_of old k (q / 64)) (q % 64)) (sym same_label)
      | inr other ↦ ap (λ x. bit_at x (q % 64))
          (word_apart old new label (point / 64) _ l (q / 64) (in_word point point_in) (in_word q q_in) written
          (λ e f. other f))
    ]
    | inr other ↦ ap (λ x. bit_at x (q % 64))
        (word_apart old new label (point / 64) _ l (q / 64) (in_word point point_in) (in_word q q_in) written
        (λ e f. other e))
  ]

  lost_of : lib_of new label point ≡ 0
  lost_of = ap (λ x. bit_at x (point % 64)) written.at ∙ bit_at_clear_same w64 word (point % 64) (omega arith)

  pub IsDeprived_cleared : IsDeprived old new point (λ l. l ≡ label)
  IsDeprived_cleared = record {
    low = λ k below. written.others k (omega arith);
    kept = λ l q l_in q_in off. kept_of l q q_in (λ _. off);
    lost = λ l l_in is. ap (λ k. lib_of new k point) is ∙ lost_of;
    less = λ l q l_in q_in one. elim (cases_eq l label) [
      | inl same ↦ elim (cases_eq q point) [
        | inl at ↦ absurd (let z : lib_of new l q ≡ 0 = ap (λ k. lib_of new k q) same ∙ ap (lib_of new label) at
            ∙ lost_of in omega arith)
        | inr off ↦ sym (kept_of l q q_in (λ _. off)) ∙ one
      ]
      | inr other ↦ sym (kept_of l q q_in (λ e. absurd (other e))) ∙ one
    ];
  }

-- taken out of the liberties of the stone on one listed point more
pub IsDeprived_more : (old mid new : List ℕ) (point : ℕ) (beside : List ℕ) (i : ℕ) → point < MAX_POINTS →
    slice_index beside i < MAX_POINTS → IsDeprived old mid point (IsStoneBeside old beside i)
    → IsDeprived mid new point (λ l. (0 < code_at mid (slice_index beside i))
    × (label_of mid (slice_index beside i) ≡ l)) → IsDeprived old new point (IsStoneBeside old beside (i + 1))
IsDeprived_more old mid new point beside i point_in near_in so_far one = record {
  low = λ k below. one.low k below ∙ so_far.low k below;
  kept = λ l q l_in q_in off. one.kept l q l_in q_in off ∙ so_far.kept l q l_in q_in off;
  lost = λ l l_in of. elim (cases_lt of.0 i) [
    | inl before ↦
        let gone : lib_of mid l point ≡ 0 = so_far.lost l l_in (of.0, before, of.2, of.3) in
        unset (word_of new l (point / 64)) (point % 64)
        (λ is. (let z = one.less l point l_in point_in is in omega arith))
    | inr last ↦
        let j : ℕ = of.0 in
        let below : j < i + 1 = of.1 in
        let e : j ≡ i = omega arith in
        let x = slice_index beside i in
        let same : code_at mid x ≡ code_at old x = so_far.low x (omega arith) in
        let label_same : label_of mid x ≡ label_of old x = so_far.low (MAX_POINTS + x) (omega arith) in
        let some : 0 < code_at old x = (let P : ℕ → Type 0 = λ k. 0 < code_at old (slice_index beside k) in
        subst P e of.2) in
        one.lost l l_in (
          (let h : 0 < code_at mid x = omega arith in h),
          label_same
              ∙ ap (λ k. label_of old (slice_index beside k)) (sym e) ∙ of.3,
        )
  ];
  less = λ l q l_in q_in is. so_far.less l q l_in q_in (one.less l q l_in q_in is);
}

pub IsFilled_more : (old mid new : List ℕ) (label : ℕ) (words : List ℕ) (i value : ℕ) → i < WORDS →
    IsFilled old mid label words i
    → IsWritten mid new (LIBERTIES + WORDS * label + i) value → value ≡ slice_index words i →
    IsFilled old new label words (i + 1)
IsFilled_more old mid new label words i value i_in so_far w value_is = record {
  below = λ k under. w.others k (omega arith) ∙ so_far.below k under;
  above = λ k over. w.others k (omega arith) ∙ so_far.above k over;
  words_are = λ j under within. elim (cases_lt j i) [
    | inl before ↦ w.others (LIBERTIES + WORDS * label + j) (omega arith) ∙ so_far.words_are j before within
    | inr last ↦ let e : j ≡ i = omega arith in ap (word_of new label) e ∙ w.at ∙ value_is
        ∙ ap (slice_index words) (sym e)
  ];
}
