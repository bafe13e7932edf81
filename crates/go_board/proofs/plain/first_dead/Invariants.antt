use Rattle.std.proofs.Common.{◌≡◌, ◌<◌, ℕ, false}
use Rattle.go_board.specs.Reaching.{is_dead}
use Rattle.go_board.proofs.plain.first_dead.Given as goal

abbrev pub invariant-loop-number : goal.invariant-loop-number
invariant-loop-number l = (k : ℕ) → k < l.number → is_dead l.grid.lines l.grid.colours k ≡ false
