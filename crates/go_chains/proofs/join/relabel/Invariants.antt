use Rattle.std.proofs.Common.{◌≡◌, ◌*◌}
use Rattle.go_chains.specs.Cells.{next_of}
use Rattle.go_chains.specs.inner.Edits.{Edited}
use Rattle.go_chains.specs.inner.Rings.{steps}
use Rattle.go_chains.specs.inner.Writes.{IsRelabelled}
use Rattle.go_chains.proofs.join.relabel.Given as goal

abbrev pub invariant-loop : goal.invariant-loop
invariant-loop g l = record {
  at : l.at ≡ steps (next_of l.fn.cells.numbers) l.counter l.fn.from;
  relabelled : IsRelabelled (next_of l.fn.cells.numbers) l.fn.cells.numbers l.cells.numbers l.fn.from l.counter l.fn.to;
  edited : Edited l.fn.cells l.cells l.fn.changes l.changes l.fn.meter l.meter l.counter (3 * l.counter);
}
