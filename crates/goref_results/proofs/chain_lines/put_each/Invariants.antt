use Rattle.std.proofs.Common.{◌≡◌, ◌++◌, ℕ, List}
use Rattle.std.specs.List.{flat_map}
use Rattle.go_board.specs.Pens.{Writes}
use Rattle.goref_results.specs.inner.Texts.{spaced_point}
use Rattle.goref_results.proofs.chain_lines.put_each.Given as goal

abbrev pub invariant-loop-point : goal.invariant-loop-point
invariant-loop-point g l =
    (done : List ℕ)
    × Writes g.W.Sink l.fn.pen l.pen done
    × (done ++ flat_map spaced_point l.point-iterator ≡ flat_map spaced_point l.fn.points)
