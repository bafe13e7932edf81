-- The diagram of a standing: its heading, its rows from the top, and the letters of its columns.
use Rattle.std.specs.Prelude.{ℕ, ◌+◌, ◌-◌, ◌*◌, nat_lt, if◌then◌else◌, List, [], ◌∷◌, ◌++◌, Option, Some, None, codes, decimal, length, take}
use Rattle.std.specs.List.{flat_map, range_with_len}
use Rattle.go_board.specs.declared.colour.Colour.{Colour}
use Rattle.go_board.specs.declared.colour.Colour.TheVariants.{Black, White}
use Rattle.go_board.specs.Colours.{Colouring, colour_at, letter_of}
use Rattle.go_board.specs.Vertices.{column_letters}
use Rattle.go_game.specs.Standings.{Standing, board_of, mover_of}
use Rattle.go_game.specs.Prisoners.{prisoners_of}
use Rattle.go_game.specs.Scores.{hundredths_word}

-- a point of the diagram: X for black, O for white
abbrev pub mark_of : Option Colour → ℕ
mark_of None = 46
mark_of (Some Black) = 88
mark_of (Some White) = 79

-- what the heading says of the game: size and komi
abbrev pub setting_text : Standing → List ℕ
setting_text s = codes "size " ++ (decimal s.lines ++ (codes " komi " ++ hundredths_word s.komi))

-- and the prisoners, by the colour that was taken
abbrev pub prisoners_text : Standing → List ℕ
prisoners_text s =
    codes " prisoners B " ++ (decimal (prisoners_of s Black) ++ (codes " W " ++ decimal (prisoners_of s White)))

-- and the number of moves, and whose turn it is
abbrev pub turn_text : Standing → List ℕ
turn_text s = codes " moves " ++ (decimal (length s.moves) ++ (codes " next " ++ letter_of (mover_of s) ∷ []))

-- a number, right-aligned in two columns
abbrev pub padding_of : ℕ → List ℕ
padding_of n = if nat_lt n 10 then codes " " else []

abbrev pub right_in_two : ℕ → List ℕ
right_in_two n = padding_of n ++ decimal n

-- a point of a row, after a space
abbrev pub spaced_mark : ℕ → Colouring → ℕ → ℕ → List ℕ
spaced_mark n g row col = 32 ∷ mark_of (colour_at g (row * n + col)) ∷ []

-- the first `count` points of a row, from the left
abbrev pub marks_text : ℕ → Colouring → ℕ → ℕ → List ℕ
marks_text n g row count = flat_map (spaced_mark n g row) (range_with_len 0 count)

-- a line end, the number of a row and its points
abbrev pub row_text : ℕ → Colouring → ℕ → List ℕ
row_text n g row = codes "\n" ++ (right_in_two (row + 1) ++ marks_text n g row n)

-- the first `count` rows, from the top
abbrev pub rows_text : ℕ → Colouring → ℕ → List ℕ
rows_text n g count = flat_map (λ k. row_text n g (n - 1 - k)) (range_with_len 0 count)

abbrev pub spaced_letter : ℕ → List ℕ
spaced_letter letter = 32 ∷ letter ∷ []

-- a line end, and the letters of the columns below them
abbrev pub letters_text : ℕ → List ℕ
letters_text n = codes "\n  " ++ flat_map spaced_letter (take n column_letters)

abbrev pub diagram_of : ℕ → Colouring → List ℕ
diagram_of n g = rows_text n g n ++ letters_text n

abbrev pub diagram : Standing → List ℕ
diagram s = setting_text s ++ (prisoners_text s ++ (turn_text s ++ diagram_of s.lines (board_of s)))
