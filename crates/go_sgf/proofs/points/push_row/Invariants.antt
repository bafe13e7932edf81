use Rattle.std.proofs.Common.{◌≡◌, ◌++◌}
use Rattle.go_sgf.proofs.points.push_row.Given as goal

abbrev pub invariant-loop-point : goal.invariant-loop-point
invariant-loop-point g l = l.points.items ++ l.point-iterator ≡ l.initial.points.items ++ l.fn.row
