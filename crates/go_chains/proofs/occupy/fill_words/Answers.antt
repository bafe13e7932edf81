use Rattle.std.proofs.Common.{arith, ℕ, subst}
use Rattle.go_chains.specs.inner.Writes.{IsWritten}
use Rattle.go_chains.proofs.writes.Depriving.{IsFilled_more}
use Rattle.go_chains.proofs.writes.Editing.{Edited_then, Edited_within}
use Rattle.go_chains.proofs.occupy.fill_words.Goals as goal

pub loop-word-preserved : goal.loop-word-preserved
loop-word-preserved g c =
    let inv = c.loop-word.invariant in
    let one = c.put.ensures in
    let i = c.loop-word.word in
    let P : ℕ → Type 0 = λ k. IsWritten c.loop-word.cells.numbers c.put.new.cells.numbers k c.word.result in
    record {
      filled = IsFilled_more c.args.cells.now.numbers c.loop-word.cells.numbers c.put.new.cells.numbers c.args.label
          c.args.set.now i c.word.result (omega arith) inv.filled (subst P c.word_place-place.ensures.value one.written)
          c.word.ensures;
      edited = Edited_then inv.edited one.edited (omega arith) (omega arith) (omega arith);
    }

pub returns-clause-edited : goal.returns-clause-edited
returns-clause-edited g c = Edited_within c.loop-word.invariant.edited (omega arith) (omega arith) (omega arith)
    (omega arith)
