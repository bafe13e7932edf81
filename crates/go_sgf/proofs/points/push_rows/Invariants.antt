use Rattle.std.proofs.Common.{◌≡◌, ◌++◌}
use Rattle.std.specs.List.{flat_map, range_with_len}
use Rattle.go_sgf.specs.Rectangles.{points_of_row}
use Rattle.go_sgf.proofs.points.push_rows.Given as goal

abbrev pub invariant-loop-number : goal.invariant-loop-number
invariant-loop-number g l =
    l.points.items ≡ l.initial.points.items ++ flat_map (points_of_row l.rectangle) (range_with_len 0 l.number)
