use Rattle.std.proofs.Common.{arith, ◌≡◌, ◌<◌, ◌≤◌, ◌⊎◌, ◌+◌, ◌∙◌, ℕ, inr, length, subst, sym}
use Rattle.std.specs.List.{prefix_len}
use Rattle.std.proofs.lemmas.List.Sums.{prefix_len-le-length}
use Rattle.goref_lines.specs.inner.Prefixes.{is_word_byte}
use Rattle.goref_lines.proofs.Pieces.{WordsUpTo, prefix_end, prefix_stops, words_blank, words_next}
use Rattle.goref_lines.proofs.line.words_prefix.Goals as goal
use Rattle.goref_lines.proofs.line.words_prefix.Goals.{then-not-is_of_word+else-byte-ne32+else-place-start, else-not-is_of_word}

pub loop-place-preserved : goal.loop-place-preserved
loop-place-preserved c = elim c.if-not-is_of_word.branch [
  | then-not-is_of_word+else-byte-ne32+else-place-start w ↦ record {
    joined = subst (λ (start : ℕ). WordsUpTo c.args.bytes.now start (c.loop-place.place + 1)) (sym w.start-is)
        (words_blank c.args.bytes.now c.loop-place.start c.loop-place.place c.loop-place.invariant.joined
        w.if-byte-ne32.false w.if-place-start.false);
    first = inr (let stop = prefix_stops c.args.bytes.now c.loop-place.place
        (sym c.is_of_word.ensures ∙ w.if-not-is_of_word.true) in omega (arith, w.start-is, stop));
  }
  | else-not-is_of_word w ↦ record {
    joined = subst (λ (start : ℕ). WordsUpTo c.args.bytes.now start (c.loop-place.place + 1)) (sym w.start-is)
        (words_next c.args.bytes.now c.loop-place.start c.loop-place.place c.loop-place.invariant.joined
        c.loop-place-test.true (sym c.is_of_word.ensures ∙ w.if-not-is_of_word.false));
    first = subst (λ (start : ℕ). (start ≡ 0) ⊎ (prefix_len is_word_byte c.args.bytes.now < start)) (sym w.start-is)
        c.loop-place.invariant.first;
  }
]

pub returns-then-byte-ne32-clause-word : goal.returns-then-byte-ne32-clause-word
returns-then-byte-ne32-clause-word c =
    subst (λ (n : ℕ). prefix_len is_word_byte c.args.bytes.now ≤ n) (sym c.words_end.ensures)
    (prefix_end c.args.bytes.now c.loop-place.start c.loop-place.place c.loop-place.invariant.first
    (prefix_stops c.args.bytes.now c.loop-place.place (sym c.is_of_word.ensures ∙ c.if-not-is_of_word.true)))

pub returns-clause-word : goal.returns-clause-word
returns-clause-word c =
    let bytes = c.args.bytes.now in
    subst (λ (n : ℕ). prefix_len is_word_byte bytes ≤ n) (sym c.words_end-2.ensures)
    (prefix_end bytes c.loop-place.start (length bytes) c.loop-place.invariant.first
    (let all = prefix_len-le-length is_word_byte bytes in omega (arith, all)))
