use Rattle.std.proofs.Common.{◌*◌}
use Rattle.go_chains.specs.inner.Edits.{Edited}
use Rattle.go_chains.specs.inner.Writes.{IsFilled}
use Rattle.go_chains.proofs.occupy.fill_words.Given as goal

abbrev pub invariant-loop-word : goal.invariant-loop-word
invariant-loop-word g l = record {
  filled : IsFilled l.fn.cells.numbers l.cells.numbers l.fn.label l.fn.set l.word;
  edited : Edited l.fn.cells l.cells l.fn.changes l.changes l.fn.meter l.meter l.word (2 * l.word);
}
