use Rattle.std.proofs.Common.{◌<◌, ◌≤◌, ◌*◌, ℕ}
use Rattle.go_board.specs.PointSets.{HasPoint}
use Rattle.go_board.proofs.point_set.PointSet.next.Given as goal

abbrev pub invariant-loop-word : goal.invariant-loop-word
invariant-loop-word l = (q : ℕ) → l.first ≤ q → q < 64 * l.word → HasPoint l.self-inside.words q → ⊥
