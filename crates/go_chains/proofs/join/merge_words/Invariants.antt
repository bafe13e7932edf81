use Rattle.std.proofs.Common.{◌*◌}
use Rattle.go_chains.specs.inner.Edits.{Edited}
use Rattle.go_chains.specs.inner.Writes.{IsMerged}
use Rattle.go_chains.proofs.join.merge_words.Given as goal

abbrev pub invariant-loop-word : goal.invariant-loop-word
invariant-loop-word g l = record {
  merged : IsMerged l.fn.cells.numbers l.cells.numbers l.fn.kept l.fn.gone l.word;
  edited : Edited l.fn.cells l.cells l.fn.changes l.changes l.fn.meter l.meter l.word (3 * l.word);
}
