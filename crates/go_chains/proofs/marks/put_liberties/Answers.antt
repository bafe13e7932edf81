use Rattle.std.specs.Int.{bit_at}
use Rattle.std.proofs.Common.{arith, ◌≡◌, ◌/◌, ◌%◌, ◌∙◌, ℕ, inl, inr, ap, sym, slice_index}
use Rattle.std.proofs.lemmas.Bool.{cases_lt}
use Rattle.go_chains.specs.Cells.{lib_of, word_of}
use Rattle.go_chains.proofs.marks.put_liberties.Goals as goal

pub loop-word-preserved : goal.loop-word-preserved
loop-word-preserved g c =
    let cells = c.args.cells.now.numbers in
    let label = c.args.label in
    let k = c.loop-word.word in
    let inv = c.loop-word.invariant in
    let put = c.put_word.ensures in
    let read : c.get.result ≡ word_of cells label k = c.get.ensures.value
    ∙ ap (slice_index cells) c.word_place.ensures.value in
    let bit : (q : ℕ) → q / 64 ≡ k → bit_at c.get.result (q % 64) ≡ lib_of cells label q = λ q at.
    ap (λ w. bit_at w (q % 64)) read ∙ ap (λ j. bit_at (word_of cells label j) (q % 64)) (sym at) in
    record {
      put = λ q. (
        λ set. elim ((put q).0 set) [
          | inl new ↦ inr (omega (arith, new.0), sym (bit q new.0) ∙ new.1)
          | inr had ↦ elim ((inv.put q).0 had) [ inl old ↦ inl old | inr lib ↦ inr (omega (arith, lib.0), lib.1) ]
        ],
        λ either. elim either [
          | inl old ↦ (put q).1 (inr ((inv.put q).1 (inl old)))
          | inr lib ↦ elim (cases_lt (q / 64) k) [
            | inl less ↦ (put q).1 (inr ((inv.put q).1 (inr (less, lib.1))))
            | inr past ↦ (let at : q / 64 ≡ k = omega (arith, past, lib.0) in (put q).1 (inl (at, bit q at ∙ lib.1)))
          ]
        ],
      );
      count = omega (arith, inv.count, c.get.ensures.count);
      onward = omega (arith, inv.onward, c.get.ensures.count);
    }

pub returns-clause-put : goal.returns-clause-put
returns-clause-put g c q low =
    let inv = c.loop-word.invariant in (
      λ set. elim ((inv.put q).0 set) [ inl old ↦ inl old | inr lib ↦ inr lib.1 ],
      λ either. (inv.put q).1 (elim either [
        | inl old ↦ inl old
        | inr lib ↦
            inr (omega (arith, low, c.words_of-word-end.ensures.value, c.loop-word-test.false), lib)
      ]),
    )
