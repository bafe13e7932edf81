-- The chains of a board, each on a line of its own.
use Rattle.std.specs.Prelude.{ℕ, List, [], ◌∷◌, ◌++◌, Option, Some, None, codes, map}
use Rattle.std.specs.List.{flat_map, join_with_byte}
use Rattle.go_board.specs.declared.colour.Colour.{Colour}
use Rattle.go_board.specs.declared.vertex.Vertex.TheVariants.{At}
use Rattle.go_board.specs.Colours.{Colouring, colour_at, letter_of}
use Rattle.go_board.specs.Chains.{first_stones, members, liberties}
use Rattle.go_board.specs.Points.{point_at}
use Rattle.go_board.specs.Vertices.{vertex_word}

-- the vertex of a point, after a space
abbrev pub spaced_vertex : ℕ → ℕ → List ℕ
spaced_vertex n p = 32 ∷ vertex_word (At (point_at n p))

-- the letter of a stone's colour
abbrev pub stone_text : Option Colour → List ℕ
stone_text None = []
stone_text (Some c) = letter_of c ∷ []

-- the chain of a stone: its colour, its stones, and after a colon its liberties
abbrev pub chain_line : ℕ → Colouring → ℕ → List ℕ
chain_line n g p =
    stone_text (colour_at g p)
    ++ (flat_map (spaced_vertex n) (members n g p) ++ (codes " :" ++ flat_map (spaced_vertex n) (liberties n g p)))

-- the lines of the chains, in the point order of their first stones
abbrev pub chain_lines : ℕ → Colouring → List ℕ
chain_lines n g = join_with_byte 10 (map (chain_line n g) (first_stones n g))
