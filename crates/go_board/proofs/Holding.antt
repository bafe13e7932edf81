-- What spreads from the stones of a colour over the points that the other has not: the points that it holds.
use Rattle.std.specs.Int.{bit_at}
use Rattle.std.proofs.Common.{◌≡◌, ◌<◌, ◌+◌, ◌*◌, ◌/◌, ◌%◌, ◌∙◌, ◌⊎◌, ◌↔◌, ◌==◌, ◌&&◌, inl, inr, Bool, true, ℕ, List, [], ◌∷◌, Option, Some, None, IsTrue, nat_lt, refl, sym, ap, ap₂, subst, slice_index}
use Rattle.std.proofs.lemmas.Bool.{eqb-true, eq-eqb, lt-ltb, ltb-true, or_cases, and_parts, and_from, or_right, or_left}
use Rattle.go_board.specs.declared.colour.Colour.{Colour}
use Rattle.go_board.specs.declared.colour.Colour.TheVariants.{Black, White}
use Rattle.go_board.specs.declared.point.Point.{Point}
use Rattle.go_board.specs.Colours.{Colouring, colour_at, other}
use Rattle.go_board.specs.Points.{are_beside, is_next, point_at}
use Rattle.go_board.specs.Paths.{IsAdjacent, Leads}
use Rattle.go_board.specs.Reaching.{has_colour, reaches}
use Rattle.go_board.specs.Rows.{AreHeld, AreStones, IsIn, is_held}
use Rattle.go_board.specs.inner.Spreading.{IsClosedAt, IsNext, PassesAll, PassesOn, Spread}
use Rattle.go_board.proofs.Numbers.{IsOn-point_at, col_back, number_of-lt, number_of-point_at, row_back}
use Rattle.go_board.proofs.Beside.{adjacent_to}
use Rattle.go_board.proofs.Deciding.{reaches_is}
use Rattle.go_board.proofs.Seeding.{leads_colour}
use Rattle.go_board.proofs.Tests.{equal_from_same, same_from_equal}

-- points that share a side are next to each other by their rows and columns
next_of_is : (a b : ℕ) → is_next a b ≡ true → (a + 1 ≡ b) ⊎ (b + 1 ≡ a)
next_of_is a b e = elim (or_cases (a + 1 == b) (b + 1 == a) e)
    [ inl up ↦ inl (eqb-true (a + 1) b up) | inr down ↦ inr (eqb-true (b + 1) a down) ]

is_of_next : (a b : ℕ) → (a + 1 ≡ b) ⊎ (b + 1 ≡ a) → is_next a b ≡ true
is_of_next a b (inl up) = or_left (a + 1 == b) (b + 1 == a) (eq-eqb (a + 1) b up)
is_of_next a b (inr down) = or_right (a + 1 == b) (b + 1 == a) (eq-eqb (b + 1) a down)

pub next_from_beside : (p q : Point) → are_beside p q ≡ true → IsNext p.row p.col q.row q.col
next_from_beside p q e = elim (or_cases (p.row == q.row && is_next p.col q.col) (p.col == q.col && is_next p.row q.row)
    e) [
      | inl row ↦ let h = and_parts (p.row == q.row) (is_next p.col q.col) row in
          inl (eqb-true p.row q.row h.0, next_of_is p.col q.col h.1)
      | inr col ↦ let h = and_parts (p.col == q.col) (is_next p.row q.row) col in
          inr (eqb-true p.col q.col h.0, next_of_is p.row q.row h.1)
    ]

beside_from_next : (p q : Point) → IsNext p.row p.col q.row q.col → are_beside p q ≡ true
beside_from_next p q (inl row) =
    or_left (p.row == q.row && is_next p.col q.col) _
    (and_from (p.row == q.row) (is_next p.col q.col) (eq-eqb p.row q.row row.0) (is_of_next p.col q.col row.1))
beside_from_next p q (inr col) =
    or_right (p.row == q.row && is_next p.col q.col) _
    (and_from (p.col == q.col) (is_next p.row q.row) (eq-eqb p.col q.col col.0) (is_of_next p.row q.row col.1))

pub adjacent_from_next : (n row col row' col' : ℕ) → row < n → col < n → row' < n → col' < n →
    IsNext row col row' col' → IsAdjacent n (row * n + col) (row' * n + col')
adjacent_from_next n row col row' col' row_low col_low row'_low col'_low next =
    let p : Point = record { col = col; row = row } in
    let q : Point = record { col = col'; row = row' } in
    adjacent_to n p q (col_low, row_low) (col'_low, row'_low) (beside_from_next p q next)

-- a point is empty, or has a stone of the one colour or the other
pub colour_cases : (c : Colour) (o : Option Colour) → (o ≡ None) ⊎ ((o ≡ Some c) ⊎ (o ≡ Some (other c)))
colour_cases c None = inl refl
colour_cases Black (Some Black) = inr (inl refl)
colour_cases Black (Some White) = inr (inr refl)
colour_cases White (Some White) = inr (inl refl)
colour_cases White (Some Black) = inr (inr refl)

module _ (n : ℕ) (g : Colouring) (c : Colour) where
  pub held_stone : (p : ℕ) → colour_at g p ≡ Some c → is_held n g c p ≡ true
  held_stone p stone = or_left (has_colour g p (Some c)) _ (same_from_equal (colour_at g p) (Some c) stone)

  pub held_empty : (p : ℕ) → colour_at g p ≡ None → reaches n g p (Some c) ≡ true → is_held n g c p ≡ true
  held_empty p empty reach = or_right (has_colour g p (Some c)) _
      (and_from (has_colour g p None) _ (same_from_equal (colour_at g p) None empty) reach)

  pub held_cases : (p : ℕ) → is_held n g c p ≡ true → (colour_at g p ≡ Some c)
      ⊎ ((colour_at g p ≡ None) × (reaches n g p (Some c) ≡ true))
  held_cases p held = elim (or_cases (has_colour g p (Some c)) _ held) [
    | inl stone ↦ inl (equal_from_same (colour_at g p) (Some c) stone)
    | inr further ↦ let parts = and_parts (has_colour g p None) (reaches n g p (Some c)) further in
        inr (equal_from_same (colour_at g p) None parts.0, parts.1)
  ]

  -- an empty point beside one that is held is held
  pub held_beside : (p q : ℕ) → IsAdjacent n p q → colour_at g p ≡ None → is_held n g c q ≡ true →
      is_held n g c p ≡ true
  held_beside p q adjacent empty held = elim (held_cases q held) [
    | inl stone ↦ held_empty p empty ((reaches_is n g p (Some c) adjacent.0).1 (p, q, ([], refl), adjacent, stone))
    | inr further ↦
        let reach = (reaches_is n g q (Some c) adjacent.1).0 further.1 in
        held_empty p empty ((reaches_is n g p (Some c) adjacent.0).1
        (reach.0, reach.1, (q ∷ reach.2.0, (adjacent, further.0 ∙ sym empty, reach.2.1)), reach.3, reach.4))
  ]

  -- the test that what spreads passes
  pub on_held : ℕ → ℕ → Bool
  on_held row col = nat_lt row n && (nat_lt col n && is_held n g c (row * n + col))

  pub on_held_is : (row col : ℕ) → (on_held row col ≡ true)
      ↔ ((row < n) × (col < n) × IsTrue (is_held n g c (row * n + col)))
  unfolding on_held
  on_held_is row col = (
    λ e.
        let h = and_parts (nat_lt row n) _ e in
        let k = and_parts (nat_lt col n) _ h.1 in
        (ltb-true row n h.0, ltb-true col n k.0, k.1),
    λ h. and_from (nat_lt row n) _ (lt-ltb row n h.0) (and_from (nat_lt col n) _ (lt-ltb col n h.1) h.2),
  )

  module _ (own theirs free marks : List ℕ) (stones : AreStones n g c own) (others : AreStones n g (other c) theirs)
      (open_is : (row col : ℕ) → IsIn free row col ↔ ((row < n) × (col < n) × (IsIn theirs row col → ⊥)))
      (spread : Spread own free marks) (closed : (row : ℕ) → row < n → IsClosedAt marks free row) where
    stones_pass : PassesAll on_held own
    stones_pass row col inside = let h = (stones row col).0 inside in
        (on_held_is row col).1 (h.0, h.1, held_stone (row * n + col) h.2)

    passes_on : PassesOn on_held free
    passes_on row col row' col' next passes is_free =
        let h = (on_held_is row' col').0 passes in
        let f = (open_is row col).0 is_free in
        let p = row * n + col in
        let adjacent = adjacent_from_next n row col row' col' f.0 f.1 h.0 h.1 next in
        let held : is_held n g c p ≡ true = elim (colour_cases c (colour_at g p)) [
          | inl empty ↦ held_beside p (row' * n + col') adjacent empty h.2
          | inr (inl stone) ↦ held_stone p stone
          | inr (inr off) ↦ absurd (f.2 ((others row col).1 (f.0, f.1, off)))
        ] in
        (on_held_is row col).1 (f.0, f.1, held)

    -- the point is marked
    Marked : ℕ → Type 0
    Marked p = IsIn marks (p / n) (p % n)

    stone_marked : (p : ℕ) → p < n * n → colour_at g p ≡ Some c → Marked p
    unfolding Marked
    stone_marked p low stone =
        let on = IsOn-point_at n p low in
        spread.kept (p / n) (p % n) ((stones (p / n) (p % n)).1
        (on.1, on.0, ap (colour_at g) (number_of-point_at n p low) ∙ stone))

    beside_marked : (p q : ℕ) → IsAdjacent n p q → colour_at g p ≡ None → Marked q → Marked p
    unfolding Marked
    beside_marked p q adjacent empty marked =
        let on = IsOn-point_at n p adjacent.0 in
        let next = next_from_beside (point_at n p) (point_at n q) adjacent.2 in
        closed (p / n) on.1 (p % n) (q / n) (q % n) next marked
        ((open_is (p / n) (p % n)).1 (
          on.1,
          on.0,
          λ theirs_in. let bad = sym empty
              ∙ sym (ap (colour_at g) (number_of-point_at n p adjacent.0)) ∙ ((others (p / n) (p % n)).0 theirs_in).2 in
              cc,
        ))

    path_marked : (p : ℕ) (path : List ℕ) (q : ℕ) → Leads n g p path q → colour_at g p ≡ None → Marked q → Marked p
    path_marked p [] q here empty marked = subst Marked (sym here) marked
    path_marked p (r ∷ path) q h empty marked =
        beside_marked p r h.0 empty (path_marked r path q h.2 (h.1 ∙ empty) marked)

    held_marked : (p : ℕ) → p < n * n → is_held n g c p ≡ true → Marked p
    held_marked p low held = elim (held_cases p held) [
      | inl stone ↦ stone_marked p low stone
      | inr further ↦
          let reach = (reaches_is n g p (Some c) low).0 further.1 in
          path_marked p reach.2.0 reach.0 reach.2.1 further.0
          (beside_marked reach.0 reach.1 reach.3 (leads_colour n g p reach.2.0 reach.0 reach.2.1 ∙ further.0)
          (stone_marked reach.1 reach.3.1 reach.4))
    ]

    pub held_is : AreHeld n g c marks
    unfolding Marked
    held_is row col = (
      λ inside. (on_held_is row col).0 (spread.only on_held passes_on stones_pass row col inside),
      λ h.
          let p : Point = record { col = col; row = row } in
          let marked = held_marked (row * n + col) (number_of-lt n p (h.1, h.0)) h.2 in
          ap₂ (λ r k. bit_at (slice_index marks r) k) (sym (row_back n row col h.1)) (sym (col_back n row col h.1))
          ∙ marked,
    )
