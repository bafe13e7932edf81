use Rattle.std.proofs.Common.{◌≡◌, ◌++◌, ℕ, List, false}
use Rattle.std.specs.Prelude.{filter, slice_index_or}
use Rattle.std.specs.List.{flat_map}
use Rattle.go_board.specs.Pens.{Writes}
use Rattle.go_board.specs.Reaching.{points}
use Rattle.goref_results.specs.ChainLines.{spaced_vertex}
use Rattle.goref_results.specs.inner.Texts.{spaced_point}
use Rattle.goref_results.proofs.plays.put_plays.Given as goal

abbrev pub invariant-loop-point : goal.invariant-loop-point
invariant-loop-point g l =
    (done : List ℕ)
    × Writes g.W.Sink l.fn.pen l.pen done
    × (done ++ flat_map spaced_point l.point-iterator ≡ flat_map (spaced_vertex l.fn.size)
    (filter (λ p. slice_index_or l.plays p false) (points l.fn.size)))
