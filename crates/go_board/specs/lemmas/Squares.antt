-- How many points a board has.
use Rattle.std.proofs.Common.{arith, ◌≤◌, ◌*◌, ℕ}
use Rattle.go_board.specs.declared.size.TheConstants.{MAX_LINES, MAX_POINTS}

-- no board has more points than the largest
pub square-le : (n : ℕ) → n ≤ MAX_LINES → n * n ≤ MAX_POINTS
square-le n small = grind arith
