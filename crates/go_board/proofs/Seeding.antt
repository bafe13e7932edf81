-- Where a flood begins, and what it comes to.
use Rattle.std.proofs.Common.{arith, ◌≡◌, ◌+◌, ◌*◌, ◌∙◌, ◌↔◌, ◌&&◌, ◌==◌, Bool, true, inl, inr, ℕ, List, [], ◌∷◌, ◌++◌, Option, sym, ap, subst}
use Rattle.std.proofs.lemmas.Bool.{cases_lt, eqb-true, eq-eqb, or_cases, and_parts, and_from, or_right, or_left}
use Rattle.go_board.specs.declared.colour.Colour.{Colour}
use Rattle.go_board.specs.declared.point.Point.{Point}
use Rattle.go_board.specs.Colours.{Colouring, colour_at}
use Rattle.go_board.specs.Points.{are_beside, is_next, point_at}
use Rattle.go_board.specs.Paths.{IsAdjacent, Joined, Leads}
use Rattle.go_board.specs.inner.Flood.{AreReaching, Grows, IsJoinedTo, IsMarked, IsSeed, IsSeeding}
use Rattle.go_board.proofs.Deciding.{path_on, reaches_is}
use Rattle.go_board.proofs.Flooding.{leads_more}

eqb-sym : (a b : ℕ) → (a == b) ≡ true → (b == a) ≡ true
eqb-sym a b e = eq-eqb b a (sym (eqb-true a b e))

next-sym : (a b : ℕ) → is_next a b ≡ true → is_next b a ≡ true
next-sym a b e = elim (or_cases (a + 1 == b) (b + 1 == a) e) [
  | inl up ↦ or_right (b + 1 == a) (a + 1 == b) up
  | inr down ↦ or_left (b + 1 == a) (a + 1 == b) down
]

beside-sym : (p q : Point) → are_beside p q ≡ true → are_beside q p ≡ true
beside-sym p q e = elim (or_cases (p.row == q.row && is_next p.col q.col) (p.col == q.col && is_next p.row q.row) e) [
  | inl row ↦ let h = and_parts (p.row == q.row) (is_next p.col q.col) row in
      or_left (q.row == p.row && is_next q.col p.col) (q.col == p.col && is_next q.row p.row)
      (and_from (q.row == p.row) (is_next q.col p.col) (eqb-sym p.row q.row h.0) (next-sym p.col q.col h.1))
  | inr col ↦ let h = and_parts (p.col == q.col) (is_next p.row q.row) col in
      or_right (q.row == p.row && is_next q.col p.col) (q.col == p.col && is_next q.row p.row)
      (and_from (q.col == p.col) (is_next q.row p.row) (eqb-sym p.col q.col h.0) (next-sym p.row q.row h.1))
]

pub adjacent-sym : (n p q : ℕ) → IsAdjacent n p q → IsAdjacent n q p
adjacent-sym n p q h = (h.1, h.0, beside-sym (point_at n p) (point_at n q) h.2)

-- a path can be gone back
pub leads_back : (n : ℕ) (g : Colouring) (p : ℕ) (path : List ℕ) (q : ℕ) → Leads n g p path q → Joined n g q p
leads_back n g p [] q here = ([], sym here)
leads_back n g p (r ∷ path) q h =
    let rest = leads_back n g r path q h.2 in
    (rest.0 ++ p ∷ [], leads_more n g q rest.0 r p rest.1 (adjacent-sym n p r h.0, sym h.1))

-- a path keeps its colour
pub leads_colour : (n : ℕ) (g : Colouring) (p : ℕ) (path : List ℕ) (q : ℕ) → Leads n g p path q →
    colour_at g q ≡ colour_at g p
leads_colour n g p [] q here = ap (colour_at g) (sym here)
leads_colour n g p (r ∷ path) q h = leads_colour n g r path q h.2 ∙ h.1

pub seeding_more : (n : ℕ) (g : Colouring) (from to : Option Colour) (i : ℕ) (m m' : List Bool) (w w' : List ℕ)
    → IsSeeding n g from to i m w → Grows (λ j. (j ≡ i) × IsSeed n g from to j) m w m' w' →
    (IsSeed n g from to i → IsMarked m' i)
    → IsSeeding n g from to (i + 1) m' w'
seeding_more n g from to i m m' w w' before grows here = record {
  sound = λ j marked. elim (grows.only j marked) [
    | inl old ↦ let s = before.sound j old in (let low = s.0 in omega arith, s.1)
    | inr new ↦ (let same = new.0.0 in omega arith, new.0.1)
  ];
  complete = λ j low seed. elim (cases_lt j i) [
    | inl less ↦ grows.kept j (before.complete j less seed)
    | inr last ↦ let same : j ≡ i = omega arith in
        subst (IsMarked m') (sym same) (here (subst (IsSeed n g from to) same seed))
  ];
  wait = λ j marked. elim (grows.only j marked) [ inl old ↦ grows.waits j (before.wait j old) | inr new ↦ new.1 ];
  marked = λ j waits. elim (grows.waiting_only j waits)
      [ inl old ↦ grows.kept j (before.marked j old) | inr marked ↦ marked ];
  room = grows.room;
}

-- a flood from all seeds marks what reaches
pub seeds_reach : (n : ℕ) (g : Colouring) (from to : Option Colour) (seeds marks : List Bool) (waiting : List ℕ)
    → IsSeeding n g from to (n * n) seeds waiting → ((j : ℕ) → IsMarked marks j ↔ IsJoinedTo n g seeds j) →
    AreReaching n g from to marks
seeds_reach n g from to seeds marks waiting seeding flood j = (
  λ m. let h = (flood j).0 m in
      let seed = seeding.sound h.0 h.1 in
      let low = path_on n g h.0 h.2.0 j seed.0 h.2.1 in (
        low,
        leads_colour n g h.0 h.2.0 j h.2.1 ∙ seed.1.0,
        (reaches_is n g j to low).1 (h.0, seed.1.1.0, leads_back n g h.0 h.2.0 j h.2.1, seed.1.1.1, seed.1.1.2),
      ),
  λ h. let reach = (reaches_is n g j to h.0).0 h.2 in
      let end_low = path_on n g j reach.2.0 reach.0 h.0 reach.2.1 in
      let end_colour = leads_colour n g j reach.2.0 reach.0 reach.2.1 ∙ h.1 in
      (flood j).1 (
        reach.0,
        seeding.complete reach.0 end_low (end_colour, (reach.1, reach.3, reach.4)),
        leads_back n g j reach.2.0 reach.0 reach.2.1,
      ),
)
