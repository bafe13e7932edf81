-- Sets of points by their numbers: a bit for each, 64 in a word.
use Rattle.std.specs.Prelude.{ℕ, Bool, List, ◌≡◌, ◌+◌, ◌-◌, ◌*◌, ◌/◌, ◌%◌, filter, map, nat_eq, slice_index}
use Rattle.std.specs.Int.{bit_at}
use Rattle.std.specs.List.{range_with_len}
use Rattle.go_board.specs.declared.point.Point.{Point}
use Rattle.go_board.specs.Points.{point_at}

-- the bit of the point with number q
abbrev pub bit_of : List ℕ → ℕ → ℕ
bit_of words q = bit_at (slice_index words (q / 64)) (q % 64)

-- the set has the point with number q
abbrev pub HasPoint : List ℕ → ℕ → Type 0
HasPoint words q = bit_of words q ≡ 1

-- the same as a test
abbrev pub has_point : List ℕ → ℕ → Bool
has_point words q = nat_eq (bit_of words q) 1

-- the points of a board of n lines that are in a set, in point order, from number k on
unfoldable pub points_from : ℕ → List ℕ → ℕ → List Point
points_from n words k = map (point_at n) (filter (has_point words) (range_with_len k (n * n - k)))

-- how many words have a bit for each of a number of points
abbrev pub words_for : ℕ → ℕ
words_for points = (points + 63) / 64
