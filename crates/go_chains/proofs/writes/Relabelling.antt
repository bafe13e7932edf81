-- What relabelling a ring and merging words of liberties have written, a step at a time.
use Rattle.std.proofs.Common.{ℕ, ◌+◌, ◌*◌, ◌<◌, ◌≡◌, ◌≢◌, inl, inr, sym, ap, ◌∙◌, arith, List, slice_index}
use Rattle.std.specs.Int.RustNames.{bit_or}
use Rattle.std.proofs.lemmas.Bool.{cases_lt, cases_eq}
use Rattle.go_board.specs.declared.size.TheConstants.{MAX_POINTS}
use Rattle.go_chains.specs.declared.cells.TheConstants.{LABELS, LINKS, LIBERTIES}
use Rattle.go_board.specs.declared.point_set.TheConstants.{WORDS}
use Rattle.go_chains.specs.inner.Rings.{steps}
use Rattle.go_chains.specs.Cells.{label_of, next_of, word_of}
use Rattle.go_chains.specs.inner.Writes.{IsWritten}
use Rattle.go_chains.specs.inner.Writes.{IsMerged, IsRelabelled}
use Rattle.go_chains.proofs.tables.Rings.{steps-add}

pub IsRelabelled_more : (next : ℕ → ℕ) (old mid new : List ℕ) (from i to at : ℕ) → at < MAX_POINTS →
    at ≡ steps next i from
    → IsRelabelled next old mid from i to → IsWritten mid new (LABELS + at) to →
    IsRelabelled next old new from (i + 1) to
IsRelabelled_more next old mid new from i to at at_in at_is so_far w = record {
  low = λ k below. w.others k (omega arith) ∙ so_far.low k below;
  high = λ k above. w.others k (omega arith) ∙ so_far.high k above;
  on = λ j below. elim (cases_eq (steps next j from) at) [
    | inl same ↦ ap (label_of new) same ∙ w.at
    | inr differs ↦ elim (cases_lt j i) [
      | inl before ↦ w.others (LABELS + steps next j from) (λ e. differs (omega arith)) ∙ so_far.on j before
      | inr last ↦ absurd (differs (ap (λ k. steps next k from) (let e : j ≡ i = omega arith in e) ∙ sym at_is))
    ]
  ];
  off = λ p p_in differs.
      w.others (LABELS + p) (λ e. differs i (omega arith) (sym at_is ∙ (let s : at ≡ p = omega arith in s)))
      ∙ so_far.off p p_in (λ j below. differs j (omega arith));
}

-- the ring link read after a write is the one that stood before
pub relabelled_link : (old new : List ℕ) (from i to at read : ℕ) → at ≡ steps (next_of old) i from →
    IsRelabelled (next_of old) old new from (i + 1) to
    → read ≡ slice_index new (LINKS + at) → read ≡ steps (next_of old) (i + 1) from
relabelled_link old new from i to at read at_is now read_is =
    read_is ∙ now.high (LINKS + at) (omega arith) ∙ ap (next_of old) at_is ∙ sym (steps-add (next_of old) i 1 from)

pub IsMerged_more : (old mid new : List ℕ) (keep gone i here there : ℕ) → keep < MAX_POINTS → gone < MAX_POINTS →
    keep ≢ gone → i < WORDS
    → here ≡ word_of mid keep i → there ≡ word_of mid gone i → IsMerged old mid keep gone i
    → IsWritten mid new (LIBERTIES + WORDS * keep + i) (bit_or here there) → IsMerged old new keep gone (i + 1)
IsMerged_more old mid new keep gone i here there keep_in gone_in apart i_in here_is there_is so_far w = record {
  below = λ k below. w.others k (omega arith) ∙ so_far.below k below;
  above = λ k above. w.others k (omega arith) ∙ so_far.above k above;
  words = λ j below within. elim (cases_lt j i) [
    | inl before ↦ w.others (LIBERTIES + WORDS * keep + j) (omega arith) ∙ so_far.words j before within
    | inr last ↦
        let e : j ≡ i = omega arith in
        ap (word_of new keep) e ∙ w.at
        ∙ ap (λ x. bit_or x there) (here_is ∙ so_far.rest i (omega arith) i_in)
        ∙ ap (bit_or (word_of old keep i)) (there_is ∙ other)
        ∙ ap (λ k. bit_or (word_of old keep k) (word_of old gone k)) (sym e)
  ];
  rest = λ j from within. w.others (LIBERTIES + WORDS * keep + j) (omega arith) ∙ so_far.rest j (omega arith) within;
}
  where
    other : word_of mid gone i ≡ word_of old gone i
    other = elim (cases_lt gone keep) [
      | inl under ↦ so_far.below (LIBERTIES + WORDS * gone + i) (omega arith)
      | inr over ↦ so_far.above (LIBERTIES + WORDS * gone + i) (omega arith)
    ]
