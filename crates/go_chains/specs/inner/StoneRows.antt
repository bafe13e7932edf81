-- The stones in a row of a board. For the contracts of private functions.
use Rattle.std.specs.Prelude.{◌≡◌, ◌<◌, ◌+◌, ◌*◌, ◌↔◌, ℕ, Some}
use Rattle.std.specs.Int.{bit_at}
use Rattle.go_board.specs.declared.colour.Colour.{Colour}
use Rattle.go_board.specs.Colours.{colour_at}
use Rattle.go_chains.specs.Boards.{BoardValue, grid_of}

-- the bits of the word are the stones of c in a row of a board
abbrev pub IsRowOfStones : BoardValue → Colour → ℕ → ℕ → Type 0
IsRowOfStones b c row word = (col : ℕ)
    → (bit_at word col ≡ 1) ↔ ((col < b.lines) × (colour_at (grid_of b) (row * b.lines + col) ≡ Some c))
