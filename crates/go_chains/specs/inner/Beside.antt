-- The points beside a point, by their numbers.
use Rattle.std.specs.Prelude.{ℕ, List, ◌≡◌, ◌<◌, ◌≤◌, length, slice_index}
use Rattle.go_board.specs.Paths.{IsAdjacent}

-- the list has the points adjacent to p, and no others
pub record AreBeside (n p : ℕ) (items : List ℕ) : Type 0 where
  pub few : length items ≤ 4
  pub are : (i : ℕ) → i < length items → IsAdjacent n p (slice_index items i)
  pub all : (q : ℕ) → IsAdjacent n p q → (i : ℕ) × (i < length items) × (slice_index items i ≡ q)
