-- Sets of places as a word for each row. For the contracts of areas by rows.
use Rattle.std.specs.Prelude.{◌≡◌, ◌<◌, ◌+◌, ◌*◌, ◌↔◌, ◌&&◌, ◌||◌, ℕ, Bool, List, Some, None, IsTrue, slice_index}
use Rattle.std.specs.Int.{bit_at}
use Rattle.go_board.specs.declared.colour.Colour.{Colour}
use Rattle.go_board.specs.declared.colour.Colour.TheVariants.{Black, White}
use Rattle.go_board.specs.declared.rows.ByColour.{ByColour}
use Rattle.go_board.specs.Colours.{Colouring, colour_at}
use Rattle.go_board.specs.Reaching.{has_colour, reaches}

-- the place in this row and column is one of the set: its bit is set in the word of the row
abbrev pub IsIn : List ℕ → ℕ → ℕ → Type 0
IsIn rows row col = bit_at (slice_index rows row) col ≡ 1

-- the set of one colour
abbrev pub rows_of : ByColour (List ℕ) → Colour → List ℕ
rows_of sets Black = sets.black
rows_of sets White = sets.white

-- the set has the stones of c
abbrev pub AreStones : ℕ → Colouring → Colour → List ℕ → Type 0
AreStones n g c rows = (row col : ℕ)
    → IsIn rows row col ↔ ((row < n) × (col < n) × (colour_at g (row * n + col) ≡ Some c))

-- p is a stone of c, or an empty point that reaches c
abbrev pub is_held : ℕ → Colouring → Colour → ℕ → Bool
is_held n g c p = has_colour g p (Some c) || (has_colour g p None && reaches n g p (Some c))

-- the set has the points that c holds
abbrev pub AreHeld : ℕ → Colouring → Colour → List ℕ → Type 0
AreHeld n g c rows = (row col : ℕ)
    → IsIn rows row col ↔ ((row < n) × (col < n) × IsTrue (is_held n g c (row * n + col)))
