use Rattle.std.proofs.Common.{◌≡◌, ◌+◌, ◌*◌}
use Rattle.go_chains.specs.Cells.{next_of}
use Rattle.go_chains.specs.inner.Edits.{Edited}
use Rattle.go_chains.specs.inner.Rings.{steps}
use Rattle.go_chains.specs.inner.Writes.{IsRingLifted}
use Rattle.go_chains.proofs.lift.take_off.Given as goal

abbrev pub invariant-loop : goal.invariant-loop
invariant-loop g l = record {
  at : l.at ≡ steps (next_of l.fn.cells.numbers) l.counter l.fn.stone;
  lifted : IsRingLifted l.fn.size (next_of l.fn.cells.numbers) l.fn.cells.numbers l.cells.numbers l.fn.stone l.counter
      l.fn.freed_code;
  edited : Edited l.fn.cells l.cells l.fn.changes l.changes l.fn.meter l.meter (5 * l.counter) (2 + 18 * l.counter);
}
