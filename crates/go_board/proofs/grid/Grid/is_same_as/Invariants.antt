use Rattle.std.proofs.Common.{◌≡◌, ◌<◌, ℕ}
use Rattle.go_board.specs.Colours.{colour_at}
use Rattle.go_board.proofs.grid.Grid.is_same_as.Given as goal

abbrev pub invariant-loop-number : goal.invariant-loop-number
invariant-loop-number l = (k : ℕ) → k < l.number → colour_at l.self.colours k ≡ colour_at l.other.colours k
