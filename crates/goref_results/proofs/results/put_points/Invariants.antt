use Rattle.std.proofs.Common.{take}
use Rattle.std.specs.List.{flat_map}
use Rattle.go_board.specs.Pens.{Writes}
use Rattle.goref_results.specs.inner.Texts.{spaced_point}
use Rattle.goref_results.proofs.results.put_points.Given as goal

abbrev pub invariant-loop-point : goal.invariant-loop-point
invariant-loop-point g l =
    Writes g.W.Sink l.fn.pen l.pen (flat_map spaced_point (take l.point-index l.points))
