-- Chains by their stones, with their liberties, all in point order.
use Rattle.std.specs.Prelude.{◌&&◌, ℕ, Bool, not, nat_lt, None, List, filter, map}
use Rattle.std.specs.List.{list_any}
use Rattle.go_board.specs.Colours.{Colouring}
use Rattle.go_board.specs.Reaching.{has_colour, is_liberty_of, joined, points}

-- a chain by the stones in it and its liberties
pub record Chain : Type 0 where
  pub stones : List ℕ
  pub liberties : List ℕ

-- the stones of p's chain
abbrev pub members : ℕ → Colouring → ℕ → List ℕ
members n g p = filter (joined n g p) (points n)

-- the liberties of p's chain
abbrev pub liberties : ℕ → Colouring → ℕ → List ℕ
liberties n g p = filter (is_liberty_of n g p) (points n)

-- p holds a stone, and no point before it is in its chain
abbrev pub is_first_of_chain : ℕ → Colouring → ℕ → Bool
is_first_of_chain n g p = not (has_colour g p None) && not (list_any (λ q. nat_lt q p && joined n g p q) (points n))

-- the first stone of each chain
abbrev pub first_stones : ℕ → Colouring → List ℕ
first_stones n g = filter (is_first_of_chain n g) (points n)

-- the chains in the point order of their first stones
unfoldable pub chains : ℕ → Colouring → List Chain
chains n g =
    map (λ p. let chain : Chain = record { stones = members n g p; liberties = liberties n g p } in chain)
    (first_stones n g)
