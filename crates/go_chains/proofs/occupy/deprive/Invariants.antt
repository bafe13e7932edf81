use Rattle.std.proofs.Common.{◌*◌}
use Rattle.go_chains.specs.inner.Edits.{Edited}
use Rattle.go_chains.specs.inner.Writes.{IsDeprived, IsStoneBeside}
use Rattle.go_chains.proofs.occupy.deprive.Given as goal

abbrev pub invariant-loop-near : goal.invariant-loop-near
invariant-loop-near g l = record {
  deprived : IsDeprived l.fn.cells.numbers l.cells.numbers l.fn.point
      (IsStoneBeside l.fn.cells.numbers l.fn.beside l.near-index);
  edited : Edited l.fn.cells l.cells l.fn.changes l.changes l.fn.meter l.meter l.near-index (4 * l.near-index);
}
