-- A board built stone by stone from a grid.
use Rattle.std.specs.Prelude.{◌≡◌, ◌<◌, ◌≤◌, ◌+◌, ◌*◌, ◌⊎◌, ℕ, None, if◌then◌else◌, length}
use Rattle.go_board.specs.Colours.{Colouring, colour_at}
use Rattle.go_board.specs.Grids.{GridValue}
use Rattle.go_board.specs.Reaching.{has_colour}
use Rattle.go_game.specs.Counts.{stones_in}

-- a part of a grid: each point as there, or empty
abbrev pub IsPart : Colouring → Colouring → Type 0
IsPart f g = (k : ℕ) → (colour_at f k ≡ colour_at g k) ⊎ (colour_at f k ≡ None)

-- the first i points have their colours, and the rest is empty
pub record IsFilledTo (n : ℕ) (g : Colouring) (i : ℕ) (now : Colouring) : Type 0 where
  pub whole : length now ≡ n * n
  pub there : (k : ℕ) → k < i → k < n * n → colour_at now k ≡ colour_at g k
  pub empty : (k : ℕ) → i ≤ k → colour_at now k ≡ None

-- the most writes that put the stone of one point of a grid on a board, if there is one
abbrev pub most_to_put : GridValue → ℕ → ℕ
most_to_put g p = if has_colour g.colours p None then 0 else 128 + 8 * stones_in g
