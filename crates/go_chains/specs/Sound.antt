-- When the cells of a board are sound for a colouring: what a reader must believe of the tables.
use Rattle.std.specs.Prelude.{ℕ, List, [], ◌∷◌, ◌++◌, ◌≡◌, ◌≢◌, ◌≤◌, ◌<◌, ◌+◌, ◌*◌, ◌↔◌, None, AllPairs, Contains}
use Rattle.go_board.specs.declared.size.TheConstants.{MAX_LINES}
use Rattle.go_board.specs.Colours.{Colouring, colour_at}
use Rattle.go_board.specs.Packs.{colour_coded}
use Rattle.go_board.specs.Paths.{IsAdjacent, Joined, Reaches}
use Rattle.go_chains.specs.Boards.{IsStoneOf, colouring_of}
use Rattle.go_chains.specs.Rings.{ring_from}
use Rattle.go_chains.specs.Cells.{code_at, label_of, next_of, size_of, lib_of}

-- the list has the stones of p's chain, each once, and no other point
abbrev pub ListsChain : ℕ → Colouring → ℕ → List ℕ → Type 0
ListsChain n g p stones = AllPairs (λ x y. x ≢ y) stones × ((q : ℕ) → Contains stones q ↔ Joined n g p q)

-- q is empty and adjacent to a stone of p's chain
abbrev pub IsChainLiberty : ℕ → Colouring → ℕ → ℕ → Type 0
IsChainLiberty n g p q = (colour_at g q ≡ None) × ((s : ℕ) × Joined n g p s × IsAdjacent n s q)

-- the cells are sound for a colouring of a board of n lines
pub record AreSound (n : ℕ) (g : Colouring) (cells : List ℕ) : Type 0 where
  pub colours : (p : ℕ) → p < n * n → colour_at g p ≡ colour_coded (code_at cells p)
  pub coded : (p : ℕ) → p < n * n → code_at cells p < 3
  pub alive : (p : ℕ) → IsStoneOf g p → Reaches n g p None
  pub labels : (p q : ℕ) → IsStoneOf g p → IsStoneOf g q → (label_of cells p ≡ label_of cells q) ↔ Joined n g p q
  pub rings : (p : ℕ) → IsStoneOf g p
      → ListsChain n g p (ring_from (next_of cells) (size_of cells (label_of cells p)) p)
  pub closed : (p : ℕ) → IsStoneOf g p → ring_from (next_of cells) (size_of cells (label_of cells p) + 1) p
      ≡ ring_from (next_of cells) (size_of cells (label_of cells p)) p ++ p ∷ []
  pub liberties : (p q : ℕ) → IsStoneOf g p → q < n * n
      → (lib_of cells (label_of cells p) q ≡ 1) ↔ IsChainLiberty n g p q

-- the cells are sound for the colouring that they say, and each chain's label is one of its stones
pub record IsKept (n : ℕ) (cells : List ℕ) : Type 0 where
  pub small : n ≤ MAX_LINES
  pub sound : AreSound n (colouring_of n cells) cells
  pub heads : (p : ℕ) → IsStoneOf (colouring_of n cells) p → Joined n (colouring_of n cells) p (label_of cells p)
