use Rattle.std.proofs.Common.{◌≡◌}
use Rattle.std.specs.List.{flat_map, range_with_len}
use Rattle.go_sgf.specs.Rectangles.{points_of_row}
use Rattle.go_record.specs.Walks.{with_points}
use Rattle.go_record.proofs.start.set_rows.Given as goal

abbrev pub invariant-loop-number : goal.invariant-loop-number
invariant-loop-number l = record {
  lines : l.grid.lines ≡ l.initial.grid.lines;
  colours : l.grid.colours
      ≡ with_points l.initial.grid.lines l.colour l.initial.grid.colours
      (flat_map (points_of_row l.rectangle) (range_with_len 0 l.number));
}
