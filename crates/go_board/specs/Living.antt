-- Which stones live: those that reach empty.
use Rattle.std.specs.Prelude.{◌≡◌, ◌<◌, ◌*◌, ℕ, true, false}
use Rattle.go_board.specs.declared.point.Point.{Point}
use Rattle.go_board.specs.Colours.{Colouring}
use Rattle.go_board.specs.Points.{IsOn, number_of}
use Rattle.go_board.specs.Reaching.{is_dead}

-- each stone reaches empty
abbrev pub AreAlive : ℕ → Colouring → Type 0
AreAlive n g = (k : ℕ) → k < n * n → is_dead n g k ≡ false

-- the point is the first in point order whose stone doesn't reach empty
pub record IsFirstDead (n : ℕ) (g : Colouring) (p : Point) : Type 0 where
  pub on : IsOn n p
  pub dead : is_dead n g (number_of n p) ≡ true
  pub first : (k : ℕ) → k < number_of n p → is_dead n g k ≡ false
