-- Values that are points: one of them or a pass, and lists of them with rectangles.
use Rattle.std.specs.Prelude.{ℕ, ◌-◌, ◌==◌, ◌&&◌, ◌||◌, nat_le, nat_lt, Bool, true, false, if◌then◌else◌, List, [], ◌∷◌, ◌++◌, Option, Some, None, drop, filter, map, option_map, position, take}
use Rattle.go_board.specs.declared.point.Point.{Point}
use Rattle.go_board.specs.declared.vertex.Vertex.{Vertex}
use Rattle.go_board.specs.declared.vertex.Vertex.TheVariants.{Pass, At}
use Rattle.go_board.specs.Points.{point_at}
use Rattle.go_board.specs.Reaching.{points}
use Rattle.go_sgf.specs.Record.{is_lower}
use Rattle.go_sgf.specs.Numbers.{trimmed}

-- a lower-case letter that names one of n lines, `a` the first
abbrev pub names_line : ℕ → ℕ → Bool
names_line n c = is_lower c && nat_lt (c - 97) n

-- two letters: the column from the left and the row from the top
abbrev pub point_in : ℕ → List ℕ → Option Point
point_in n (c ∷ r ∷ []) =
    if names_line n c && names_line n r then Some (record { col = c - 97; row = n - 1 - (r - 97) }) else None
point_in n _ = None

-- nothing, or `tt`
abbrev pub is_pass_word : List ℕ → Bool
is_pass_word [] = true
is_pass_word (c ∷ d ∷ []) = (c == 116) && (d == 116)
is_pass_word _ = false

-- a point, or else a pass
abbrev pub vertex_by : Option Point → Bool → Option Vertex
vertex_by (Some p) pass = Some (At p)
vertex_by None pass = if pass then Some Pass else None

-- the point of a move, or a pass: an empty value, and `tt` where it is no point
abbrev pub vertex_in : ℕ → List ℕ → Option Vertex
vertex_in n v = vertex_by (point_in n (trimmed v)) (is_pass_word (trimmed v))

abbrev pub is_between : ℕ → ℕ → ℕ → Bool
is_between a b x = (nat_le a x && nat_le x b) || (nat_le b x && nat_le x a)

-- the point is in the rectangle with these opposite corners
abbrev pub is_in : Point → Point → Point → Bool
is_in p q x = is_between p.col q.col x.col && is_between p.row q.row x.row

-- the points of a rectangle, in point order
abbrev pub rectangle : ℕ → Point → Point → List Point
rectangle n p q = filter (is_in p q) (map (point_at n) (points n))

abbrev pub rectangle_by : ℕ → Option Point → Option Point → Option (List Point)
rectangle_by n (Some p) (Some q) = Some (rectangle n p q)
rectangle_by n _ _ = None

-- no point, or one
abbrev pub points_alone : ℕ → List ℕ → Option (List Point)
points_alone n [] = Some []
points_alone n (c ∷ cs) = option_map (λ p. p ∷ []) (point_in n (c ∷ cs))

-- the points of one value, whose first `:` is at a place, if there is one
abbrev pub points_by : ℕ → List ℕ → Option ℕ → Option (List Point)
points_by n v (Some k) = rectangle_by n (point_in n (trimmed (take k v))) (point_in n (trimmed (drop 1 (drop k v))))
points_by n v None = points_alone n (trimmed v)

-- the points of one value: a rectangle by two opposite corners, a point, or no point
abbrev pub points_listed : ℕ → List ℕ → Option (List Point)
points_listed n v = points_by n v (position (λ c. c == 58) v)

abbrev pub both : Option (List Point) → Option (List Point) → Option (List Point)
both (Some ps) (Some qs) = Some (ps ++ qs)
both _ _ = None

-- the points value by value, where each value has some
abbrev pub points_by_values : ℕ → List (List ℕ) → Option (List Point)
points_by_values n [] = Some []
points_by_values n (v ∷ vs) = both (points_listed n v) (points_by_values n vs)
