-- The record of a standing: one tree, with the start in its first node and then a node for each move.
use Rattle.std.specs.Prelude.{ℕ, ◌+◌, ◌-◌, List, [], ◌∷◌, ◌++◌, Some, codes, decimal, filter, map}
use Rattle.go_board.specs.declared.colour.Colour.{Colour}
use Rattle.go_board.specs.declared.colour.Colour.TheVariants.{Black, White}
use Rattle.go_board.specs.declared.point.Point.{Point}
use Rattle.go_board.specs.declared.vertex.Move.{Move}
use Rattle.go_board.specs.declared.vertex.Vertex.{Vertex}
use Rattle.go_board.specs.declared.vertex.Vertex.TheVariants.{Pass, At}
use Rattle.go_board.specs.Colours.{Colouring, letter_of}
use Rattle.go_board.specs.Points.{point_at}
use Rattle.go_board.specs.Reaching.{has_colour, points}
use Rattle.go_game.specs.Scores.{hundredths_word}
use Rattle.go_game.specs.Standings.{Standing}
use Rattle.go_sgf.specs.Record.{Property, Trees, none, tree}
use Rattle.go_sgf.specs.Spelling.{canonical, tree_text}

-- a property with these values
abbrev pub property : List ℕ → List (List ℕ) → Property
property name values = record { name = name; values = values }

-- a property with this one value
abbrev pub alone : List ℕ → List ℕ → Property
alone name value = property name (value ∷ [])

-- B or W
abbrev pub colour_letter : Colour → List ℕ
colour_letter colour = letter_of colour ∷ []

-- a point as a value: the column from the left and the row from the top, `a` the first
abbrev pub point_value : ℕ → Point → List ℕ
point_value n p = (97 + p.col) ∷ (97 + (n - 1 - p.row)) ∷ []

-- a vertex as a value: a pass is an empty one
abbrev pub vertex_value : ℕ → Vertex → List ℕ
vertex_value n Pass = []
vertex_value n (At p) = point_value n p

-- the points of a colour, in point order
abbrev pub points_coloured : ℕ → Colouring → Colour → List ℕ
points_coloured n g c = filter (λ k. has_colour g k (Some c)) (points n)

-- a property of these points, or none where there is no point
abbrev pub stones_property : List ℕ → ℕ → List ℕ → List Property
stones_property name n [] = []
stones_property name n (k ∷ ks) = property name (map (λ j. point_value n (point_at n j)) (k ∷ ks)) ∷ []

-- size, komi, the colour to move first, and the stones at the start
abbrev pub start_node : Standing → List Property
start_node s =
    alone (codes "GM") (codes "1") ∷ alone (codes "FF") (codes "4") ∷ alone (codes "SZ") (decimal s.lines) ∷
    alone (codes "KM") (hundredths_word s.komi) ∷ alone (codes "PL") (colour_letter s.first) ∷
    (stones_property (codes "AB") s.lines (points_coloured s.lines s.start Black)
    ++ stones_property (codes "AW") s.lines (points_coloured s.lines s.start White))

-- a move
abbrev pub move_node : ℕ → Move → List Property
move_node n m = alone (colour_letter m.colour) (vertex_value n m.vertex) ∷ []

abbrev pub nodes_of : Standing → List (List Property)
nodes_of s = start_node s ∷ map (move_node s.lines) s.moves

abbrev pub game_tree : Standing → Trees
game_tree s = tree (nodes_of s) none none

-- the record of a standing as a text
abbrev pub record_of : Standing → List ℕ
record_of s = canonical (game_tree s)

-- and without the line end after its tree
abbrev pub record_body : Standing → List ℕ
record_body s = tree_text (nodes_of s) none
