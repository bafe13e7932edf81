use Rattle.std.proofs.Common.{◌*◌}
use Rattle.go_chains.specs.inner.Edits.{Edited}
use Rattle.go_chains.specs.inner.Writes.{IsGiven, IsGivenBeside}
use Rattle.go_chains.proofs.lift.give_back.Given as goal

abbrev pub invariant-loop-near : goal.invariant-loop-near
invariant-loop-near g l = record {
  given : IsGiven l.fn.cells.numbers l.cells.numbers l.fn.point
      (IsGivenBeside l.fn.cells.numbers l.fn.beside l.fn.colour l.near-index);
  edited : Edited l.fn.cells l.cells l.fn.changes l.changes l.fn.meter l.meter l.near-index (4 * l.near-index);
}
