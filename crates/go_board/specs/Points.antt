use Rattle.std.specs.Prelude.{ℕ, Bool, ◌+◌, ◌*◌, ◌/◌, ◌%◌, ◌<◌, ◌==◌, ◌&&◌, ◌||◌}
use Rattle.go_board.specs.declared.point.Point.{Point}

-- the point is on a board of n lines
abbrev pub IsOn : ℕ → Point → Type 0
IsOn n p = (p.col < n) × (p.row < n)

-- its number in point order: row by row from the bottom, each from the left
abbrev pub number_of : ℕ → Point → ℕ
number_of n p = p.row * n + p.col

-- the point with this number
abbrev pub point_at : ℕ → ℕ → Point
point_at n k = record { col = k % n; row = k / n }

-- one of the two follows the other
abbrev pub is_next : ℕ → ℕ → Bool
is_next a b = (a + 1 == b) || (b + 1 == a)

-- the two points share a side
abbrev pub are_beside : Point → Point → Bool
are_beside p q = (p.row == q.row && is_next p.col q.col) || (p.col == q.col && is_next p.row q.row)

-- the points with these numbers share a side
abbrev pub is_adjacent : ℕ → ℕ → ℕ → Bool
is_adjacent n p q = are_beside (point_at n p) (point_at n q)
