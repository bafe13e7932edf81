-- What a list of vertices says where the stones of a free handicap are asked for.
use Rattle.std.specs.Prelude.{ℕ, ◌*◌, ◌==◌, ◌&&◌, nat_le, nat_lt, not, Bool, true, if◌then◌else◌, List, [], ◌∷◌, length, map, Option, Some, None, Result, Ok, Err}
use Rattle.std.specs.List.{list_any}
use Rattle.go_board.specs.declared.point.Point.{Point}
use Rattle.go_board.specs.declared.vertex.Vertex.{Vertex}
use Rattle.go_board.specs.declared.vertex.Vertex.TheVariants.{Pass, At}
use Rattle.go_board.specs.Points.{number_of}
use Rattle.go_board.specs.Vertices.{vertex_of}
use Rattle.goref_lines.specs.declared.stones.ListError.{ListError}
use Rattle.goref_lines.specs.declared.stones.ListError.TheVariants.{Malformed, Bad}

-- a list with one more value before it, where there are both
abbrev pub with_first : {X : Type 0} → Option X → Option (List X) → Option (List X)
with_first (Some x) (Some xs) = Some (x ∷ xs)
with_first _ _ = None

-- the vertices that words spell, where each of them spells one
abbrev pub spelled : List (List ℕ) → Option (List Vertex)
spelled [] = Some []
spelled (word ∷ words) = with_first (vertex_of word) (spelled words)

-- the point of a vertex, where it is one of a board of n lines and no pass
abbrev pub point_on : ℕ → Vertex → Option Point
point_on n Pass = None
point_on n (At p) = if nat_lt p.col n && nat_lt p.row n then Some p else None

-- the points of vertices, where each is a point of a board of n lines and none a pass
abbrev pub points_on : ℕ → List Vertex → Option (List Point)
points_on n [] = Some []
points_on n (v ∷ vertices) = with_first (point_on n v) (points_on n vertices)

-- no number is there twice
abbrev pub are_distinct : List ℕ → Bool
are_distinct [] = true
are_distinct (x ∷ xs) = not (list_any (λ y. y == x) xs) && are_distinct xs

-- stones of a free handicap: at least two, each of them once, and one point of the board is left
abbrev pub is_free_handicap : ℕ → List Point → Bool
is_free_handicap n points =
    (nat_le 2 (length points) && nat_lt (length points) (n * n)) && are_distinct (map (number_of n) points)

-- the points, where there are any and they are stones of a free handicap
abbrev pub stones_of : ℕ → Option (List Point) → Result (List Point) ListError
stones_of n None = Err Bad
stones_of n (Some points) = if is_free_handicap n points then Ok points else Err Bad

-- the stones at vertices, where the words spelled some
abbrev pub stones_at : ℕ → Option (List Vertex) → Result (List Point) ListError
stones_at n None = Err Malformed
stones_at n (Some vertices) = stones_of n (points_on n vertices)

-- what the words of a free handicap list on a board of n lines: no words, or a word that spells no
-- vertex, is malformed
abbrev pub stones_listed : ℕ → List (List ℕ) → Result (List Point) ListError
stones_listed n [] = Err Malformed
stones_listed n (word ∷ words) = stones_at n (spelled (word ∷ words))
