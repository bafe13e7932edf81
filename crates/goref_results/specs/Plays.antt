-- The legal plays of a colour, as they are marked and as they are written.
use Rattle.std.specs.Prelude.{◌≡◌, ◌≤◌, ℕ, ◌*◌, ◌&&◌, nat_lt, Bool, false, List, filter, map, slice_index_or}
use Rattle.std.specs.List.{join_with_byte, range_with_len}
use Rattle.go_board.specs.declared.colour.Colour.{Colour}
use Rattle.go_board.specs.declared.size.TheConstants.{MAX_LINES, MAX_POINTS}
use Rattle.go_board.specs.declared.vertex.Vertex.TheVariants.{At}
use Rattle.go_board.specs.Points.{point_at}
use Rattle.go_board.specs.Reaching.{points}
use Rattle.go_board.specs.Vertices.{vertex_word}
use Rattle.go_game.specs.Choices.{legal_plays, may_play}
use Rattle.go_game.specs.Standings.{Standing}

-- of the first k points those on which the colour may play, among the numbers of the largest board's points
abbrev pub marked_below : ℕ → Standing → Colour → List Bool
marked_below k s c = map (λ p. nat_lt p k && may_play s c p) (range_with_len 0 MAX_POINTS)

-- the points of the board on which the colour may play
abbrev pub marked_plays : Standing → Colour → List Bool
marked_plays s c = marked_below (s.lines * s.lines) s c

-- the vertex of a point
abbrev pub number_word : ℕ → ℕ → List ℕ
number_word n p = vertex_word (At (point_at n p))

-- the vertices of points, by spaces
abbrev pub numbers_text : ℕ → List ℕ → List ℕ
numbers_text n ps = join_with_byte 32 (map (number_word n) ps)

-- the vertices of the marked points, in point order, by spaces
abbrev pub plays_text : ℕ → List Bool → List ℕ
plays_text n marks = numbers_text n (filter (λ p. slice_index_or marks p false) (points n))

-- the vertices of the legal plays of a colour, in point order, by spaces
abbrev pub legal_text : Standing → Colour → List ℕ
legal_text s c = numbers_text s.lines (legal_plays s c)

-- on any board, the text of the marked plays is the list of the legal ones
abbrev pub MarksAreLegal : Type 0
MarksAreLegal = (s : Standing) (c : Colour)
    → s.lines ≤ MAX_LINES → plays_text s.lines (marked_plays s c) ≡ legal_text s c
