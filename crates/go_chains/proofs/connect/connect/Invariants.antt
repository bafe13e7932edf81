use Rattle.std.proofs.Common.{◌+◌, ◌*◌}
use Rattle.go_board.specs.Paths.{IsAdjacent}
use Rattle.go_board.specs.declared.point_set.TheConstants.{WORDS}
use Rattle.go_chains.specs.inner.CellSteps.{growth}
use Rattle.go_chains.specs.inner.Edits.{Edited}
use Rattle.go_chains.specs.inner.Steps.{IsConnectedTo}
use Rattle.go_chains.specs.inner.Tables.{IsTidy, tables_of}
use Rattle.go_chains.proofs.connect.connect.Given as goal

abbrev pub invariant-loop-near : goal.invariant-loop-near
invariant-loop-near g l =
    let n = l.fn.size in
    let grown = growth l.fn.cells l.cells l.fn.point in
    record {
      tidy : IsTidy (n * n) (IsAdjacent n) (tables_of l.cells.numbers);
      connected : IsConnectedTo (n * n) (tables_of l.fn.cells.numbers) (tables_of l.cells.numbers) l.fn.point
          l.fn.beside l.near-index;
      edited : Edited l.fn.cells l.cells l.fn.changes l.changes l.fn.meter l.meter (grown + l.near-index * (WORDS + 3))
          (3 * grown + l.near-index * (3 * WORDS + 15));
    }
