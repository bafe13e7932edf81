-- Points beside each other, and a list of them.
use Rattle.std.proofs.Common.{arith, ◌≡◌, ◌<◌, ◌≤◌, ◌+◌, ◌*◌, ◌∙◌, Bool, true, false, ℕ, List, IsTrue, All, Contains, get_or, length, map, sym, ap, subst, ◌==◌, ◌&&◌, inl, inr}
use Rattle.go_board.specs.Laws.{PointsByNumber}
use Rattle.std.proofs.lemmas.List.{get_or-map, length-map}
use Rattle.go_board.specs.declared.point.Point.{Point}
use Rattle.std.proofs.lemmas.Bool.{or_cases, eqb-true, false_from_ne_true, false≢true}
use Rattle.go_board.specs.Points.{IsOn, are_beside, is_next, number_of, point_at}
use Rattle.go_board.specs.Paths.{IsAdjacent}
use Rattle.go_chains.specs.inner.Beside.{AreBeside}

abbrev pub origin : Point
origin = record { col = 0; row = 0 }

-- the numbers of the neighbours are those of the points beside
pub are_beside_by_number : PointsByNumber → (n p : ℕ) (at : Point) (items : List Point) (xs : List ℕ) → p < n * n →
    at ≡ point_at n p → length items ≤ 4
    → All (λ q. IsOn n q) items → All (λ q. IsTrue (are_beside at q)) items →
    ((q : Point) → IsOn n q → IsTrue (are_beside at q) → Contains items q)
    → xs ≡ map (number_of n) items → AreBeside n p xs
are_beside_by_number law n p at items xs p_in at_is few on beside each numbers = record {
  few = let e : length xs ≡ length items = ap length numbers ∙ length-map items (number_of n) in omega arith;
  are = λ i below.
      let low : i < length items = let e : length xs ≡ length items = ap length numbers
      ∙ length-map items (number_of n) in omega arith in
      let q = get_or items i origin in
      let is : get_or xs i 0 ≡ number_of n q = ap (λ l. get_or l i 0) numbers
      ∙ get_or-map (number_of n) items i origin 0 low in
      let near : IsAdjacent n p (number_of n q) = (
        p_in,
        law.number n q (on i origin low),
        ap (are_beside (point_at n p)) (law.back n q (on i origin low)) ∙ ap (λ r. are_beside r q) (sym at_is)
            ∙ beside i origin low,
      ) in
      subst (IsAdjacent n p) (sym is) near;
  all = λ k near.
      let q = point_at n k in
      let has = each q (law.on n k near.1) (ap (λ r. are_beside r q) at_is ∙ near.2) in
      let low : has.0 < length items = has.1 in
      let e : length xs ≡ length items = ap length numbers ∙ length-map items (number_of n) in (
        has.0,
        omega arith,
        ap (λ l. get_or l has.0 0) numbers ∙ get_or-map (number_of n) items has.0 q 0 low
            ∙ ap (number_of n) has.2 ∙ law.same n k near.1,
      );
}

is_next-self : (a : ℕ) → is_next a a ≡ false
is_next-self a = false_from_ne_true (is_next a a) (λ e. elim (or_cases (a + 1 == a) (a + 1 == a) e) [
  | inl up ↦ (let h = eqb-true (a + 1) a up in omega arith)
  | inr down ↦ (let h = eqb-true (a + 1) a down in omega arith)
])

-- an adjacent point is on the board
pub inside : (n p q : ℕ) → IsAdjacent n p q → q < n * n
inside n p q near = near.1

second_of : (a b : Bool) → (a && b) ≡ true → b ≡ true
second_of true b e = e
second_of false b e = absurd (false≢true e)

-- no point is adjacent to itself
pub apart : (n p : ℕ) → IsAdjacent n p p → ⊥
apart n p near =
    let at = point_at n p in
    elim (or_cases (at.row == at.row && is_next at.col at.col) (at.col == at.col && is_next at.row at.row) near.2) [
      | inl row ↦ (let e = sym (is_next-self at.col) ∙ second_of (at.row == at.row) (is_next at.col at.col) row in
          absurd (false≢true e))
      | inr column ↦ (let e = sym (is_next-self at.row) ∙ second_of (at.col == at.col) (is_next at.row at.row) column in
          absurd (false≢true e))
    ]
