use Rattle.std.proofs.Common.{arith, ℕ, ap, ◌∙◌, subst}
use Rattle.std.specs.Prelude.{slice_index}
use Rattle.std.specs.Int.RustNames.{bit_or}
use Rattle.go_chains.specs.inner.Writes.{IsWritten}
use Rattle.go_chains.proofs.writes.Relabelling.{IsMerged_more}
use Rattle.go_chains.proofs.writes.Editing.{Edited_then, Edited_within}
use Rattle.go_chains.proofs.join.merge_words.Goals as goal

pub loop-word-preserved : goal.loop-word-preserved
loop-word-preserved g c = record {
  merged = IsMerged_more c.args.cells.now.numbers c.loop-word.cells.numbers c.replace.new.cells.numbers c.args.kept
      c.args.gone c.loop-word.word c.get-here.result c.get-there.result
      c.requires.kept c.requires.gone c.requires.apart (omega arith)
      (c.get-here.ensures.value ∙ ap (slice_index c.loop-word.cells.numbers) c.word_place-place.ensures.value)
      (c.get-there.ensures.value ∙ ap (slice_index c.loop-word.cells.numbers) c.word_place.ensures.value)
      c.loop-word.invariant.merged
      (let P : ℕ → Type 0 = λ k. IsWritten c.loop-word.cells.numbers c.replace.new.cells.numbers k
      (bit_or c.get-here.result c.get-there.result) in
      subst P c.word_place-place.ensures.value c.replace.ensures.written);
  edited = Edited_then c.loop-word.invariant.edited c.replace.ensures.edited (omega arith) (omega arith) (omega arith);
}

pub returns-clause-edited : goal.returns-clause-edited
returns-clause-edited g c = Edited_within c.loop-word.invariant.edited (omega arith) (omega arith) (omega arith)
    (omega arith)
