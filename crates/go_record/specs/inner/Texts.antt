-- The pieces of a record's text, for the contracts of private functions.
use Rattle.std.specs.Prelude.{ℕ, List, [], ◌∷◌, ◌++◌, Some, codes, decimal, filter, option_to_list, slice_get}
use Rattle.std.specs.List.{flat_map, range_with_len}
use Rattle.go_board.specs.declared.colour.Colour.{Colour}
use Rattle.go_board.specs.declared.vertex.Move.{Move}
use Rattle.go_board.specs.Colours.{Colouring}
use Rattle.go_board.specs.Points.{point_at}
use Rattle.go_board.specs.Reaching.{has_colour}
use Rattle.go_game.specs.Scores.{hundredths_word}
use Rattle.go_game.specs.Standings.{Standing}
use Rattle.go_record.specs.Records.{colour_letter, point_value, points_coloured, vertex_value}

-- size and komi
abbrev pub opening_text : Standing → List ℕ
opening_text s = codes "(;GM[1]FF[4]SZ[" ++ (decimal s.lines ++ (codes "]KM[" ++ hundredths_word s.komi))

-- the colour to move first
abbrev pub first_turn_text : Standing → List ℕ
first_turn_text s = codes "]PL[" ++ (colour_letter s.first ++ codes "]")

-- a point between brackets
abbrev pub point_text : ℕ → ℕ → List ℕ
point_text n k = 91 ∷ (point_value n (point_at n k) ++ codes "]")

-- the points of a colour among the first ones of the board
abbrev pub coloured_within : Colouring → Colour → ℕ → List ℕ
coloured_within g c count = filter (λ k. has_colour g k (Some c)) (range_with_len 0 count)

-- stones after the name of their property, or nothing where there are none
abbrev pub named_stones : List ℕ → ℕ → List ℕ → List ℕ
named_stones name n [] = []
named_stones name n (k ∷ ks) = name ++ flat_map (point_text n) (k ∷ ks)

abbrev pub stones_text : Standing → List ℕ → Colour → List ℕ
stones_text s name c = named_stones name s.lines (points_coloured s.lines s.start c)

-- a move
abbrev pub move_text : ℕ → Move → List ℕ
move_text n m = 59 ∷ (colour_letter m.colour ++ (91 ∷ (vertex_value n m.vertex ++ codes "]")))

-- the move with this number from 0, or nothing
abbrev pub numbered_text : Standing → ℕ → List ℕ
numbered_text s k = flat_map (move_text s.lines) (option_to_list (slice_get s.moves k))
