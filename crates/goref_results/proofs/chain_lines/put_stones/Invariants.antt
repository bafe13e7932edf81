use Rattle.std.proofs.Common.{◌≡◌, ◌++◌, List}
use Rattle.std.specs.List.{flat_map}
use Rattle.go_board.specs.declared.point.Point.{Point}
use Rattle.go_board.specs.Pens.{Writes}
use Rattle.goref_results.specs.inner.Texts.{spaced_point}
use Rattle.goref_results.specs.inner.Seen.{GainsPoints}
use Rattle.goref_results.proofs.chain_lines.put_stones.Given as goal

abbrev pub invariant-loop-at : goal.invariant-loop-at
invariant-loop-at g l =
    (done : List Point)
    × (done ++ l.at-iterator ≡ l.fn.stones)
    × Writes g.W.Sink l.fn.pen l.pen (flat_map spaced_point done)
    × GainsPoints done l.fn.seen l.seen
