-- How far a list of stones is read, for the contracts of private functions.
use Rattle.std.specs.Prelude.{◌≡◌, ℕ, ◌+◌, ◌*◌, ◌<◌, ◌==◌, ◌&&◌, nat_lt, not, true, Bool, List, ◌++◌, length, map, All, Option, Some, None, option_map, Result, Err}
use Rattle.std.specs.List.{list_any}
use Rattle.go_board.specs.declared.point.Point.{Point}
use Rattle.go_board.specs.declared.vertex.Vertex.{Vertex}
use Rattle.go_board.specs.Points.{IsOn, number_of}
use Rattle.goref_lines.specs.declared.stones.ListError.{ListError}
use Rattle.goref_lines.specs.declared.stones.ListError.TheVariants.{Malformed, Bad}
use Rattle.goref_lines.specs.Stones.{are_distinct, points_on, stones_of}

-- the points of a list so far, on a board of this many lines, or none where the list is bad already
pub record Gathered : Type 0 where
  pub lines : ℕ
  pub points : Option (List Point)

-- the points are on the board, each is there once, and one point of the board is left
pub record AreApart (n : ℕ) (points : List Point) : Type 0 where
  pub on : All (IsOn n) points
  pub few : length points < n * n
  pub distinct : are_distinct (map (number_of n) points) ≡ true

-- a point is not among these points, and one more point of the board is left
abbrev pub may_follow : ℕ → List Point → Point → Bool
may_follow n points p =
    nat_lt (length points + 1) (n * n) && not (list_any (λ q. number_of n q == number_of n p) points)

-- the result of a list that began with these points, or is bad already, and goes on with these vertices
abbrev pub comes_from : ℕ → Option (List Point) → List Vertex → Result (List Point) ListError
comes_from n None vertices = Err Bad
comes_from n (Some points) vertices = stones_of n (option_map (λ more. points ++ more) (points_on n vertices))

-- the result of a list with these points so far, whose other words spell these vertices
abbrev pub gathers : Gathered → Option (List Vertex) → Result (List Point) ListError
gathers g None = Err Malformed
gathers g (Some vertices) = comes_from g.lines g.points vertices
