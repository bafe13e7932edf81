-- What a stone on an empty point gains for its colour, where it takes nothing.
use Rattle.std.specs.Prelude.{◌≡◌, ◌+◌, ℕ, Some, slice_set}
use Rattle.go_board.specs.declared.colour.Colour.{Colour}
use Rattle.go_board.specs.Colours.{Colouring, other}
use Rattle.go_board.specs.Reaching.{area}

-- with a stone of c on p the area of c has `gain` points more, and that of the other colour as many as before
pub record Gains (n : ℕ) (g : Colouring) (c : Colour) (p gain : ℕ) : Type 0 where
  pub own : area n (slice_set g p (Some c)) c ≡ area n g c + gain
  pub theirs : area n (slice_set g p (Some c)) (other c) ≡ area n g (other c)
