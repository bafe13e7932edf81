-- The steps of a path from a point, and the neighbours that were looked at.
use Rattle.std.proofs.Common.{arith, ◌≡◌, ◌<◌, ◌≤◌, ◌+◌, ◌∙◌, Bool, inl, inr, ℕ, List, Option, IsTrue, All, Contains, length, get_or, sym, ap, subst}
use Rattle.std.proofs.lemmas.List.{get_or_default}
use Rattle.std.proofs.lemmas.Bool.{cases_lt}
use Rattle.go_board.specs.declared.colour.Colour.{Colour}
use Rattle.go_board.specs.declared.point.Point.{Point}
use Rattle.go_board.specs.Colours.{Colouring, colour_at}
use Rattle.go_board.specs.Points.{IsOn, are_beside, number_of, point_at}
use Rattle.go_board.specs.Paths.{IsAdjacent}
use Rattle.go_board.specs.inner.Flood.{Grows, IsStep}
use Rattle.go_board.proofs.Numbers.{IsOn-point_at, number_of-lt, number_of-point_at, point_at-number_of}
use Rattle.go_board.proofs.Marks.{grows_more}

abbrev pub origin : Point
origin = record { col = 0; row = 0 }

-- a neighbour is adjacent by its number
pub adjacent_to : (n : ℕ) (p q : Point) → IsOn n p → IsOn n q → IsTrue (are_beside p q) →
    IsAdjacent n (number_of n p) (number_of n q)
adjacent_to n p q p_on q_on beside = (
  number_of-lt n p p_on,
  number_of-lt n q q_on,
  ap (λ (r : Point). are_beside r (point_at n (number_of n q))) (point_at-number_of n p p_on)
      ∙ ap (are_beside p) (point_at-number_of n q q_on) ∙ beside,
)

-- the points are the neighbours of p, and all of them
pub record AreNeighbours (n : ℕ) (p : Point) (items : List Point) : Type 0 where
  pub on : All (λ q. IsOn n q) items
  pub beside : All (λ q. IsTrue (are_beside p q)) items
  pub each : (q : Point) → IsOn n q → IsTrue (are_beside p q) → Contains items q

pub are_neighbours : (p : Point) {m n : ℕ} {items xs : List Point} → m ≡ n → xs ≡ items
    → All (λ q. IsOn m q) items → All (λ q. IsTrue (are_beside p q)) items →
    ((q : Point) → IsOn m q → IsTrue (are_beside p q) → Contains items q)
    → AreNeighbours n p xs
are_neighbours p {m = m} {n = n} {items = items} {xs = xs} lines same on beside each =
    let now : AreNeighbours m p items = record { on = on; beside = beside; each = each } in
    subst (λ (k : ℕ). AreNeighbours k p xs) lines (subst (AreNeighbours m p) (sym same) now)

-- the neighbour at this place is adjacent
pub adjacent_at : (n : ℕ) (p : Point) (items : List Point) (i : ℕ) → IsOn n p → i < length items →
    AreNeighbours n p items → IsAdjacent n (number_of n p) (number_of n (get_or items i origin))
adjacent_at n p items i p_on low them =
    adjacent_to n p (get_or items i origin) p_on (them.on i origin low) (them.beside i origin low)

-- one more neighbour was looked at
pub beside_more : (n : ℕ) (g : Colouring) (p : Point) (colour : Option Colour) (items : List Point) (i : ℕ)
    {m₀ : List Bool} {w₀ : List ℕ} {m₁ : List Bool} {w₁ : List ℕ} {m₂ : List Bool} {w₂ : List ℕ}
    → IsOn n p → colour ≡ colour_at g (number_of n p) → i < length items → AreNeighbours n p items
    → Grows (IsStep n g (number_of n p)) m₀ w₀ m₁ w₁
    → Grows (λ j. (j ≡ number_of n (get_or items i origin))
    × (colour_at g (number_of n (get_or items i origin)) ≡ colour)) m₁ w₁ m₂ w₂
    → Grows (IsStep n g (number_of n p)) m₀ w₀ m₂ w₂
beside_more n g p colour items i p_on same low them before now =
    grows_more {New = IsStep n g (number_of n p)}
    (λ j h. subst (IsStep n g (number_of n p)) (sym h.0) (adjacent_at n p items i p_on low them, h.1 ∙ same)) before
    now

-- M holds of the points of this colour among the first i neighbours
abbrev pub HoldsOfFirst : ℕ → Colouring → Option Colour → List Point → ℕ → (ℕ → Type 0) → Type 0
HoldsOfFirst n g colour items i M = (k : ℕ) (q : Point) → k < i → get_or items k q ≡ q →
    colour_at g (number_of n q) ≡ colour → M (number_of n q)

pub done_more : (n : ℕ) (g : Colouring) (colour : Option Colour) (items : List Point) (i : ℕ) (M M' : ℕ → Type 0)
    → i < length items → HoldsOfFirst n g colour items i M → ((j : ℕ) → M j → M' j)
    → (colour_at g (number_of n (get_or items i origin)) ≡ colour → M' (number_of n (get_or items i origin)))
    → HoldsOfFirst n g colour items (i + 1) M'
done_more n g colour items i M M' low done kept here k q below at same = elim (cases_lt k i) [
  | inl before ↦ kept (number_of n q) (done k q before at same)
  | inr last ↦
      let k_is : k ≡ i = omega arith in
      let q_is : get_or items i origin ≡ q = get_or_default items i origin q low ∙ ap (λ m. get_or items m q) (sym k_is)
      ∙ at in
      subst (λ (r : Point). colour_at g (number_of n r) ≡ colour → M' (number_of n r)) q_is here same
]

-- when all neighbours were looked at, M holds of each adjacent point of this colour
pub all_done : (n : ℕ) (g : Colouring) (p : Point) (colour : Option Colour) (items : List Point) (i : ℕ)
    (M : ℕ → Type 0)
    → IsOn n p → length items ≤ i
    → AreNeighbours n p items
    → HoldsOfFirst n g colour items i M
    → (j : ℕ) → IsAdjacent n (number_of n p) j → colour_at g j ≡ colour → M j
all_done n g p colour items i M p_on all them done j adjacent same =
    let q : Point = point_at n j in
    let beside : IsTrue (are_beside p q) = sym (ap (λ (r : Point). are_beside r q) (point_at-number_of n p p_on))
    ∙ adjacent.2 in
    let found = them.each q (IsOn-point_at n j adjacent.1) beside in
    let number : number_of n q ≡ j = number_of-point_at n j adjacent.1 in
    let low : found.0 < i = let within : found.0 < length items = found.1 in omega arith in
    subst M number (done found.0 q low found.2 (ap (colour_at g) number ∙ same))

-- M holds of each of the first i neighbours
abbrev pub HoldsOfEach : ℕ → List Point → ℕ → (ℕ → Type 0) → Type 0
HoldsOfEach n items i M = (k : ℕ) (q : Point) → k < i → get_or items k q ≡ q → M (number_of n q)

pub each_more : (n : ℕ) (items : List Point) (i : ℕ) (M : ℕ → Type 0) → i < length items → HoldsOfEach n items i M →
    M (number_of n (get_or items i origin)) → HoldsOfEach n items (i + 1) M
each_more n items i M low done here k q below at = elim (cases_lt k i) [
  | inl before ↦ done k q before at
  | inr last ↦
      let k_is : k ≡ i = omega arith in
      let q_is : get_or items i origin ≡ q = get_or_default items i origin q low ∙ ap (λ m. get_or items m q) (sym k_is)
      ∙ at in
      subst (λ (r : Point). M (number_of n r)) q_is here
]

-- when all neighbours were looked at, M holds of each adjacent point
pub each_done : (n : ℕ) (p : Point) (items : List Point) (i : ℕ) (M : ℕ → Type 0) → IsOn n p → length items ≤ i →
    AreNeighbours n p items → HoldsOfEach n items i M
    → (j : ℕ) → IsAdjacent n (number_of n p) j → M j
each_done n p items i M p_on all them done j adjacent =
    let q : Point = point_at n j in
    let beside : IsTrue (are_beside p q) = sym (ap (λ (r : Point). are_beside r q) (point_at-number_of n p p_on))
    ∙ adjacent.2 in
    let found = them.each q (IsOn-point_at n j adjacent.1) beside in
    let low : found.0 < i = let within : found.0 < length items = found.1 in omega arith in
    subst M (number_of-point_at n j adjacent.1) (done found.0 q low found.2)
