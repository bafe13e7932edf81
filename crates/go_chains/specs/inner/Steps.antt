-- What the steps of a play do to the tables.
use Rattle.std.specs.Prelude.{ℕ, List, ◌≡◌, ◌≢◌, ◌≤◌, ◌<◌, ◌+◌, ◌⊎◌, ◌↔◌, AllPairs, Contains, length, slice_index}
use Rattle.go_chains.specs.inner.Tables.{Tables, IsStone, Touches, IsTidy, AreChainsWhole, IsDead, ReachesEmpty}

-- the chain of b becomes part of the chain of a, which keeps its label
pub record IsJoin (n : ℕ) (t t' : Tables) (a b : ℕ) : Type 0 where
  pub first : IsStone n t a
  pub second : IsStone n t b
  pub same : t.colour a ≡ t.colour b
  pub apart : t.label a ≢ t.label b
  pub colours : (p : ℕ) → p < n → t'.colour p ≡ t.colour p
  pub relabelled : (p : ℕ) → IsStone n t p → t.label p ≡ t.label b → t'.label p ≡ t.label a
  pub labels : (p : ℕ) → IsStone n t p → t.label p ≢ t.label b → t'.label p ≡ t.label p
  pub first_next : t'.next a ≡ t.next b
  pub second_next : t'.next b ≡ t.next a
  pub nexts : (p : ℕ) → p < n → p ≢ a → p ≢ b → t'.next p ≡ t.next p
  pub size_is : t'.size (t.label a) ≡ t.size (t.label b) + t.size (t.label a)
  pub sizes : (l : ℕ) → l < n → l ≢ t.label a → t'.size l ≡ t.size l
  pub lib_of_first : (q : ℕ) → q < n → t.lib (t.label a) q ≡ 1 → t'.lib (t.label a) q ≡ 1
  pub lib_of_second : (q : ℕ) → q < n → t.lib (t.label b) q ≡ 1 → t'.lib (t.label a) q ≡ 1
  pub lib_of_either : (q : ℕ) → q < n → t'.lib (t.label a) q ≡ 1 → (t.lib (t.label a) q ≡ 1) ⊎ (t.lib (t.label b) q ≡ 1)
  pub libs : (l q : ℕ) → l < n → q < n → l ≢ t.label a → t'.lib l q ≡ t.lib l q

-- an empty point gets a stone, which is a chain of its own, and is no liberty any more
pub record IsPlaced (n : ℕ) (adj : ℕ → ℕ → Type 0) (t t' : Tables) (p c : ℕ) : Type 0 where
  pub within : p < n
  pub empty : t.colour p ≡ 0
  pub some : 0 < c
  pub colour_is : t'.colour p ≡ c
  pub colours : (q : ℕ) → q < n → q ≢ p → t'.colour q ≡ t.colour q
  pub label_is : t'.label p ≡ p
  pub labels : (q : ℕ) → q < n → q ≢ p → t'.label q ≡ t.label q
  pub next_is : t'.next p ≡ p
  pub nexts : (q : ℕ) → q < n → q ≢ p → t'.next q ≡ t.next q
  pub size_is : t'.size p ≡ 1
  pub sizes : (l : ℕ) → l < n → l ≢ p → t'.size l ≡ t.size l
  pub libs : (s q : ℕ) → IsStone n t s → q < n → q ≢ p → t'.lib (t.label s) q ≡ t.lib (t.label s) q
  pub lib_lost : (s : ℕ) → IsStone n t s → t'.lib (t.label s) p ≡ 0
  pub lib_is : (q : ℕ) → q < n → t'.lib p q ≡ 1 → (t.colour q ≡ 0) × adj p q
  pub has_lib : (q : ℕ) → q < n → t.colour q ≡ 0 → adj p q → t'.lib p q ≡ 1

-- the chain of r is taken off, and its points are liberties of the chains beside them
pub record IsRemoved (n : ℕ) (adj : ℕ → ℕ → Type 0) (t t' : Tables) (r : ℕ) : Type 0 where
  pub stone : IsStone n t r
  pub gone : (q : ℕ) → IsStone n t q → t.label q ≡ t.label r → t'.colour q ≡ 0
  pub colours : (q : ℕ) → q < n → (IsStone n t q → t.label q ≢ t.label r) → t'.colour q ≡ t.colour q
  pub labels : (q : ℕ) → q < n → t'.label q ≡ t.label q
  pub nexts : (q : ℕ) → q < n → t'.next q ≡ t.next q
  pub sizes : (l : ℕ) → l < n → t'.size l ≡ t.size l
  pub lib_kept : (s q : ℕ) → IsStone n t s → t.label s ≢ t.label r → q < n → t.lib (t.label s) q ≡ 1 →
      t'.lib (t.label s) q ≡ 1
  pub lib_given : (s q : ℕ) → IsStone n t s → t.label s ≢ t.label r → IsStone n t q → t.label q ≡ t.label r → adj s q →
      t'.lib (t.label s) q ≡ 1
  pub lib_was : (s q : ℕ) → IsStone n t s → t.label s ≢ t.label r → q < n → t'.lib (t.label s) q ≡ 1
      → (t.lib (t.label s) q ≡ 1) ⊎ (IsStone n t q × (t.label q ≡ t.label r) × Touches n adj t (t.label s) q)

-- the points of this colour that don't reach empty are emptied
pub record IsCleared (n : ℕ) (adj : ℕ → ℕ → Type 0) (f g : ℕ → ℕ) (c : ℕ) : Type 0 where
  pub alive : (p : ℕ) → p < n → f p ≡ c → ReachesEmpty n adj f p → g p ≡ f p
  pub dead : (p : ℕ) → p < n → f p ≡ c → (ReachesEmpty n adj f p → ⊥) → g p ≡ 0
  pub others : (p : ℕ) → p < n → f p ≢ c → g p ≡ f p

-- some chains of colour o that had no liberty are taken off, and all else stays
pub record IsCapturing (n : ℕ) (adj : ℕ → ℕ → Type 0) (t t' : Tables) (o : ℕ) : Type 0 where
  pub tidy : IsTidy n adj t'
  pub whole : AreChainsWhole n adj t'
  pub labels : (x : ℕ) → x < n → t'.label x ≡ t.label x
  pub colours : (x : ℕ) → x < n → (t'.colour x ≡ t.colour x)
      ⊎ ((t'.colour x ≡ 0) × (t.colour x ≡ o) × IsDead n t (t.label x))
  pub together : (x y : ℕ) → IsStone n t x → IsStone n t y → t.label x ≡ t.label y → t'.colour x ≡ 0 → t'.colour y ≡ 0
  pub lib_kept : (q x : ℕ) → IsStone n t' q → x < n → t.lib (t.label q) x ≡ 1 → t'.lib (t.label q) x ≡ 1
  pub lib_was : (q x : ℕ) → IsStone n t' q → t'.colour q ≡ o → x < n → t'.lib (t.label q) x ≡ 1 →
      t.lib (t.label q) x ≡ 1

-- the chain at a point has taken in the one beside it, if that has its colour
pub record IsConnected (n : ℕ) (t t' : Tables) (point near : ℕ) : Type 0 where
  pub colours : (p : ℕ) → p < n → t'.colour p ≡ t.colour p
  pub together : (x y : ℕ) → IsStone n t x → IsStone n t y → t.label x ≡ t.label y → t'.label x ≡ t'.label y
  pub done : t.colour near ≡ t.colour point → t'.label near ≡ t'.label point
  pub grows : t.size (t.label point) ≤ t'.size (t'.label point)

-- the chain at a point has taken in those at the first `upto` listed points, as far as they have its colour
pub record IsConnectedTo (n : ℕ) (t t' : Tables) (point : ℕ) (beside : List ℕ) (upto : ℕ) : Type 0 where
  pub colours : (p : ℕ) → p < n → t'.colour p ≡ t.colour p
  pub together : (x y : ℕ) → IsStone n t x → IsStone n t y → t.label x ≡ t.label y → t'.label x ≡ t'.label y
  pub done : (i : ℕ) → i < upto → t.colour (slice_index beside i) ≡ t.colour point →
      t'.label (slice_index beside i) ≡ t'.label point
  pub grows : t.size (t.label point) ≤ t'.size (t'.label point)

-- `taken` of the first n points lost this colour, and no point has it that hadn't
abbrev pub CountsTaken : ℕ → Tables → Tables → ℕ → ℕ → Type 0
CountsTaken n t t' own taken = (gone : List ℕ) × (length gone ≡ taken) × AllPairs (λ x y. x ≢ y) gone
    × ((q : ℕ) → Contains gone q ↔ ((q < n) × (t.colour q ≡ own) × (t'.colour q ≢ own)))
