use Rattle.std.proofs.Common.{◌≡◌, ◌<◌, ℕ, false}
use Rattle.std.specs.Prelude.{Some}
use Rattle.go_board.specs.Reaching.{has_colour}
use Rattle.go_record.proofs.start.has_stones.Given as goal

abbrev pub invariant-loop-number : goal.invariant-loop-number
invariant-loop-number l = (q : ℕ) → q < l.number → has_colour l.grid.colours q (Some l.colour) ≡ false
