use Rattle.std.proofs.Common.{◌≡◌}
use Rattle.std.specs.List.{All}
use Rattle.go_board.specs.Points.{IsOn}
use Rattle.go_record.specs.Walks.{with_points}
use Rattle.go_record.proofs.start.set_row.Given as goal

abbrev pub invariant-loop-point : goal.invariant-loop-point
invariant-loop-point l = record {
  lines : l.grid.lines ≡ l.initial.grid.lines;
  on : All (IsOn l.initial.grid.lines) l.point-iterator;
  colours : with_points l.initial.grid.lines l.colour l.grid.colours l.point-iterator
      ≡ with_points l.initial.grid.lines l.colour l.initial.grid.colours l.fn.row;
}
