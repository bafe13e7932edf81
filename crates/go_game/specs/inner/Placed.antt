-- Where the stones of what was seen come from. For the invariant of games.
use Rattle.std.specs.Prelude.{◌≡◌, ◌<◌, ◌+◌, ◌*◌, ◌⊎◌, ℕ, List, Some, Contains}
use Rattle.go_board.specs.declared.colour.Colour.{Colour}
use Rattle.go_board.specs.Colours.{Colouring, colour_at}
use Rattle.go_board.specs.Rows.{IsIn, rows_of}
use Rattle.go_board.specs.declared.rows.ByColour.{ByColour}
use Rattle.go_game.specs.Standings.{Seen}

-- each stone of it was there at the start, or was placed by a play that is among these
abbrev pub IsOfPlaced : ℕ → Colouring → ByColour (List ℕ) → Colouring → Type 0
IsOfPlaced n start placed g = (row col : ℕ) (c : Colour) → row < n → col < n → colour_at g (row * n + col) ≡ Some c
    → (colour_at start (row * n + col) ≡ Some c) ⊎ IsIn (rows_of placed c) row col

-- so for all that was seen
abbrev pub AreOfPlaced : ℕ → Colouring → ByColour (List ℕ) → List Seen → Type 0
AreOfPlaced n start placed xs = (x : Seen) → Contains xs x → IsOfPlaced n start placed x.0
