-- The points of a set, counted word by word.
use Rattle.std.specs.Prelude.{ℕ, Bool, List, ◌&&◌, ◌+◌, ◌*◌, count_by, nat_lt}
use Rattle.std.specs.List.{range_with_len}
use Rattle.go_board.specs.PointSets.{has_point}

-- q is one of the first points, and in the set
abbrev pub is_counted : List ℕ → ℕ → ℕ → Bool
is_counted words points q = nat_lt q points && has_point words q

-- how many of the first points are in one word of the set
unfoldable pub count_in_word : List ℕ → ℕ → ℕ → ℕ
count_in_word words points word = count_by (λ i. is_counted words points (64 * word + i)) (range_with_len 0 64)
