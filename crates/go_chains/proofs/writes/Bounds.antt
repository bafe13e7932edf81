-- What tidy tables say fits the cells of the largest board.
use Rattle.std.proofs.Common.{ℕ, List, ◌*◌, ◌≡◌, ◌<◌, ◌≤◌, refl, arith}
use Rattle.go_board.specs.lemmas.Squares.{square-le}
use Rattle.go_board.specs.Paths.{IsAdjacent}
use Rattle.go_board.specs.declared.size.TheConstants.{MAX_LINES, MAX_POINTS}
use Rattle.go_chains.specs.Cells.{code_at}
use Rattle.go_chains.specs.inner.CellSteps.{chain_size}
use Rattle.go_chains.specs.inner.Rings.{steps}
use Rattle.go_chains.specs.inner.Tables.{IsStone, IsTidy, Tables, tables_of}
use Rattle.go_chains.proofs.tables.Tidy.{size-le}

module _ (n : ℕ) (adj : ℕ → ℕ → Type 0) (t : Tables) (small : n ≤ MAX_LINES) (tidy : IsTidy (n * n) adj t) (p : ℕ)
    (stone : IsStone (n * n) t p) where
  pub label_small : t.label p < MAX_POINTS
  label_small = let h = tidy.head_in p stone in let s = square-le n small in omega arith

  pub size_small : t.size (t.label p) ≤ MAX_POINTS
  size_small = let h = size-le (n * n) adj t p tidy stone in let s = square-le n small in omega arith

  pub ring_small : (i : ℕ) → i < t.size (t.label p) → steps t.next i p < MAX_POINTS
  ring_small i below = let h : steps t.next i p < n * n =
      (tidy.on_ring p (steps t.next i p) stone (i, below, refl)).0.0 in let s = square-le n small in omega arith

-- the chain of a stone that stayed fits too
pub size_still : (n : ℕ) (old new : List ℕ) (p : ℕ) → n ≤ MAX_LINES → IsTidy (n * n) (IsAdjacent n) (tables_of new) →
    IsStone (n * n) (tables_of old) p
    → ((q : ℕ) → q < n * n → code_at new q ≡ code_at old q) → chain_size new p ≤ MAX_POINTS
size_still n old new p small tidy stone colours =
    let e : code_at new p ≡ code_at old p = colours p stone.0 in
    let some : 0 < code_at old p = stone.1 in
    size_small n (IsAdjacent n) (tables_of new) small tidy p (stone.0, omega arith)
