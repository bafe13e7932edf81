use Rattle.std.proofs.Common.{◌≡◌, false, take}
use Rattle.std.specs.Prelude.{◌==◌}
use Rattle.std.specs.List.{list_any}
use Rattle.go_board.specs.Points.{number_of}
use Rattle.goref_lines.proofs.stones.has_number.Given as goal

abbrev pub invariant-loop-point : goal.invariant-loop-point
invariant-loop-point l = list_any (λ p. number_of l.size p == l.number) (take l.point-index l.points) ≡ false
