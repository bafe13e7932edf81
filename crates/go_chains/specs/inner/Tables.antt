-- What the cells of a board say, and when that holds together.
use Rattle.std.specs.Prelude.{ℕ, List, [], ◌∷◌, ◌≡◌, ◌≢◌, ◌<◌}
use Rattle.go_chains.specs.Cells.{code_at, label_of, lib_of, next_of, size_of}
use Rattle.go_chains.specs.inner.Rings.{IsRing, IsOnRing}

-- what the cells of a board say: a colour is 0 for an empty point, and a liberty is 1
pub record Tables : Type 0 where
  pub colour : ℕ → ℕ
  pub label : ℕ → ℕ
  pub next : ℕ → ℕ
  pub size : ℕ → ℕ
  pub lib : ℕ → ℕ → ℕ

-- the tables that cells are
abbrev pub tables_of : List ℕ → Tables
tables_of cells = record {
  colour = code_at cells;
  label = label_of cells;
  next = next_of cells;
  size = size_of cells;
  lib = lib_of cells;
}

-- a stone on one of the first n points
abbrev pub IsStone : ℕ → Tables → ℕ → Type 0
IsStone n t p = (p < n) × (0 < t.colour p)

-- from p, over the listed points, to q: each beside the one before, and all of one colour
abbrev pub Links : (ℕ → ℕ → Type 0) → (ℕ → ℕ) → ℕ → List ℕ → ℕ → Type 0
Links adj colour p [] q = p ≡ q
Links adj colour p (x ∷ xs) q = adj p x × (colour x ≡ colour p) × Links adj colour x xs q

abbrev pub IsJoined : (ℕ → ℕ → Type 0) → (ℕ → ℕ) → ℕ → ℕ → Type 0
IsJoined adj colour p q = (via : List ℕ) × Links adj colour p via q

-- a stone with this label is beside q
abbrev pub Touches : ℕ → (ℕ → ℕ → Type 0) → Tables → ℕ → ℕ → Type 0
Touches n adj t l q = (s : ℕ) × IsStone n t s × (t.label s ≡ l) × adj s q

-- the tables hold together: labels name stones of their chains, rings go through the stones of one label,
-- liberty bits are the empty points beside them, and stones of one label are joined
pub record IsTidy (n : ℕ) (adj : ℕ → ℕ → Type 0) (t : Tables) : Type 0 where
  pub head_in : (p : ℕ) → IsStone n t p → t.label p < n
  pub head_colour : (p : ℕ) → IsStone n t p → t.colour (t.label p) ≡ t.colour p
  pub head_label : (p : ℕ) → IsStone n t p → t.label (t.label p) ≡ t.label p
  pub ring : (p : ℕ) → IsStone n t p → IsRing t.next (t.size (t.label p)) p
  pub on_ring : (p q : ℕ) → IsStone n t p → IsOnRing t.next (t.size (t.label p)) p q → IsStone n t q
      × (t.label q ≡ t.label p)
  pub ring_has : (p q : ℕ) → IsStone n t p → IsStone n t q → t.label q ≡ t.label p →
      IsOnRing t.next (t.size (t.label p)) p q
  pub lib_is : (p q : ℕ) → IsStone n t p → q < n → t.lib (t.label p) q ≡ 1 → (t.colour q ≡ 0)
      × Touches n adj t (t.label p) q
  pub has_lib : (p q : ℕ) → IsStone n t p → q < n → t.colour q ≡ 0 → Touches n adj t (t.label p) q →
      t.lib (t.label p) q ≡ 1
  pub joined : (p q : ℕ) → IsStone n t p → IsStone n t q → t.label p ≡ t.label q → IsJoined adj t.colour p q

-- neighbours of one colour are of one chain
abbrev pub AreChainsWhole : ℕ → (ℕ → ℕ → Type 0) → Tables → Type 0
AreChainsWhole n adj t = (p q : ℕ) → IsStone n t p → IsStone n t q → adj p q → t.colour p ≡ t.colour q →
    t.label p ≡ t.label q

-- a path over points of p's colour leads to a point beside an empty one
abbrev pub ReachesEmpty : ℕ → (ℕ → ℕ → Type 0) → (ℕ → ℕ) → ℕ → Type 0
ReachesEmpty n adj colour p = (q : ℕ) × IsJoined adj colour p q × (x : ℕ) × (x < n) × adj q x × (colour x ≡ 0)

-- no bit of a label's liberties is set
abbrev pub IsDead : ℕ → Tables → ℕ → Type 0
IsDead n t l = (x : ℕ) → x < n → t.lib l x ≡ 1 → ⊥

-- neighbours of one colour are of one chain, but for the stone at this point
abbrev pub IsWholeBut : ℕ → (ℕ → ℕ → Type 0) → Tables → ℕ → Type 0
IsWholeBut n adj t point = (p q : ℕ) → IsStone n t p → IsStone n t q → p ≢ point → q ≢ point → adj p q →
    t.colour p ≡ t.colour q → t.label p ≡ t.label q
