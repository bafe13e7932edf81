-- The colours of stones, their letters and names, and the colours of a board.
use Rattle.std.specs.Prelude.{◌||◌, Bool, if◌then◌else◌, Option, List, ℕ, slice_index_or, Some, None, codes}
use Rattle.std.specs.Str.{str_eq_ignore_ascii_case}
use Rattle.go_board.specs.declared.colour.Colour.{Colour}
use Rattle.go_board.specs.declared.colour.Colour.TheVariants.{Black, White}

-- the opponent's colour
abbrev pub other : Colour → Colour
other Black = White
other White = Black

-- a colour by its letter, B or W
abbrev pub letter_of : Colour → ℕ
letter_of Black = 66
letter_of White = 87

-- a word is this name in any case
abbrev pub is_same_word : List ℕ → List ℕ → Bool
is_same_word word name = str_eq_ignore_ascii_case word name

-- the colour that a word names: b, black, w or white
abbrev pub colour_named : List ℕ → Option Colour
colour_named word =
    if is_same_word word (codes "b") || is_same_word word (codes "black") then Some Black
    else (if is_same_word word (codes "w") || is_same_word word (codes "white") then Some White else None)

-- the colour of each point in point order, or None where it is empty
abbrev pub Colouring : Type 0
Colouring = List (Option Colour)

-- the colour of the point with this number; a point past the board counts as empty
abbrev pub colour_at : Colouring → ℕ → Option Colour
colour_at g p = slice_index_or g p None
