-- What a stone on an empty point changes of the points that are held, where it takes nothing.
use Rattle.std.proofs.Common.{arith, ◌≡◌, ◌≢◌, ◌<◌, ◌+◌, ◌*◌, ◌/◌, ◌%◌, ◌∙◌, ◌==◌, ◌&&◌, ◌||◌, zero, suc, inl, inr, Bool, true, false, true≢false, not, ℕ, List, [], ◌∷◌, Some, None, cond, count_by, length, refl, sym, ap, ap₂, subst, slice_set}
use Rattle.std.specs.List.{range_with_len}
use Rattle.std.proofs.lemmas.Bool.{cases_Bool, cases_eq, eqb-true, eq-eqb, or_cases, or_left, or_right}
use Rattle.std.proofs.lemmas.List.{get_or-set_other, get_or-set_same}
use Rattle.go_board.specs.declared.colour.Colour.{Colour}
use Rattle.go_board.specs.declared.colour.Colour.TheVariants.{Black, White}
use Rattle.go_board.specs.Colours.{Colouring, colour_at, other}
use Rattle.go_board.specs.Gains.{Gains}
use Rattle.go_board.specs.Paths.{IsAdjacent, Leads}
use Rattle.go_board.specs.Points.{point_at}
use Rattle.go_board.specs.Reaching.{area, is_area, points, reaches}
use Rattle.go_board.specs.Rows.{AreStones, is_held}
use Rattle.go_board.specs.inner.Spreading.{IsNext}
use Rattle.go_board.specs.inner.Around.{AreJoinedRound, IsOpen, PassesRound}
use Rattle.go_board.proofs.Clearing.{count_agree, count_more, same_test}
use Rattle.go_board.proofs.Counting.{on_points}
use Rattle.go_board.proofs.Deciding.{reaches_is}
use Rattle.go_board.proofs.Holding.{adjacent_from_next, colour_cases, held_beside, held_cases, held_stone, next_from_beside, on_held, on_held_is}
use Rattle.go_board.proofs.Numbers.{IsOn-point_at, col_back, number_of-point_at, row_back}
use Rattle.go_board.proofs.RowCounts.{alone_is}
use Rattle.go_board.proofs.Seeding.{adjacent-sym, leads_colour}

-- a test that the stones of a colour pass, and that passes from a point to an empty one beside it, is passed by all that the
-- colour holds
module _ (n : ℕ) (g : Colouring) (d : Colour) (test : ℕ → Bool)
    (stones : (x : ℕ) → x < n * n → colour_at g x ≡ Some d → test x ≡ true)
    (on : (x y : ℕ) → IsAdjacent n x y → colour_at g x ≡ None → test y ≡ true → test x ≡ true) where
  path_passes : (x : ℕ) (path : List ℕ) (q : ℕ) → Leads n g x path q → colour_at g x ≡ None → test q ≡ true →
      test x ≡ true
  path_passes x [] q here empty passes = subst (λ (y : ℕ). test y ≡ true) (sym here) passes
  path_passes x (r ∷ path) q h empty passes = on x r h.0 empty (path_passes r path q h.2 (h.1 ∙ empty) passes)

  pub held_passes : (x : ℕ) → x < n * n → is_held n g d x ≡ true → test x ≡ true
  held_passes x low held = elim (held_cases n g d x held) [
    | inl stone ↦ stones x low stone
    | inr further ↦
        let reach = (reaches_is n g x (Some d) low).0 further.1 in
        path_passes x reach.2.0 reach.0 reach.2.1 further.0
        (on reach.0 reach.1 reach.3 (leads_colour n g x reach.2.0 reach.0 reach.2.1 ∙ further.0)
        (stones reach.1 reach.3.1 reach.4))
  ]

other_differs : (c : Colour) → c ≡ other c → ⊥
other_differs Black e = cc
other_differs White e = cc

-- a stone of c is put on an empty point
module _ (n : ℕ) (g : Colouring) (c : Colour) (p : ℕ) (whole : length g ≡ n * n) (low : p < n * n)
    (empty : colour_at g p ≡ None) where
  abbrev placed : Colouring
  placed = slice_set g p (Some c)

  at_stone : colour_at (slice_set g p (Some c)) p ≡ Some c
  at_stone = get_or-set_same g p (Some c) None (omega (arith, whole, low))

  off_stone : (x : ℕ) → x ≢ p → colour_at (slice_set g p (Some c)) x ≡ colour_at g x
  off_stone x off = get_or-set_other g p x (Some c) None off

  -- what is empty with the stone isn't its point
  off_empty : (x : ℕ) → colour_at (slice_set g p (Some c)) x ≡ None → x ≢ p
  off_empty x none same = let bad = sym at_stone ∙ ap (colour_at (slice_set g p (Some c))) (sym same) ∙ none in cc

  was_empty : (x : ℕ) → colour_at (slice_set g p (Some c)) x ≡ None → colour_at g x ≡ None
  was_empty x none = sym (off_stone x (off_empty x none)) ∙ none

  -- nor is what had a stone before
  off_old : (x : ℕ) (d : Colour) → colour_at g x ≡ Some d → x ≢ p
  off_old x d stone same = let bad = sym stone ∙ ap (colour_at g) same ∙ empty in cc

  old_stone : (x : ℕ) (d : Colour) → colour_at g x ≡ Some d → is_held n (slice_set g p (Some c)) d x ≡ true
  old_stone x d stone = held_stone n (slice_set g p (Some c)) d x (off_stone x (off_old x d stone) ∙ stone)

  -- where the colour held the point before, it holds what it held
  module _ (held : is_held n g c p ≡ true) where
    own_before : (x : ℕ) → x < n * n → is_held n (slice_set g p (Some c)) c x ≡ true → is_held n g c x ≡ true
    own_before x x_low after =
        held_passes n (slice_set g p (Some c)) c (is_held n g c)
        (λ y y_low stone. elim (cases_eq y p) [
          | inl same ↦ subst (λ (z : ℕ). is_held n g c z ≡ true) (sym same) held
          | inr off ↦ held_stone n g c y (sym (off_stone y off) ∙ stone)
        ])
        (λ y z adjacent none passes. held_beside n g c y z adjacent (was_empty y none) passes)
        x x_low after

    own_after : (x : ℕ) → x < n * n → is_held n g c x ≡ true → is_held n (slice_set g p (Some c)) c x ≡ true
    own_after x x_low before =
        held_passes n g c (is_held n (slice_set g p (Some c)) c)
        (λ y y_low stone. old_stone y c stone)
        (λ y z adjacent none passes. elim (cases_eq y p) [
          | inl same ↦ held_stone n (slice_set g p (Some c)) c y
              (ap (colour_at (slice_set g p (Some c))) same ∙ at_stone)
          | inr off ↦ held_beside n (slice_set g p (Some c)) c y z adjacent (off_stone y off ∙ none) passes
        ])
        x x_low before

    pub own_same : (x : ℕ) → x < n * n → is_held n (slice_set g p (Some c)) c x ≡ is_held n g c x
    own_same x x_low = same_test (is_held n (slice_set g p (Some c)) c x) (is_held n g c x) (own_before x x_low)
        (own_after x x_low)

  -- what the other colour holds it held before
  theirs_before : (x : ℕ) → x < n * n → is_held n (slice_set g p (Some c)) (other c) x ≡ true →
      is_held n g (other c) x ≡ true
  theirs_before x x_low after =
      held_passes n (slice_set g p (Some c)) (other c) (is_held n g (other c))
      (λ y y_low stone. held_stone n g (other c) y
      (sym (off_stone y (λ same. other_differs c
      (let e = sym at_stone ∙ ap (colour_at (slice_set g p (Some c))) (sym same) ∙ stone in cc))) ∙ stone))
      (λ y z adjacent none passes. held_beside n g (other c) y z adjacent (was_empty y none) passes)
      x x_low after

  -- and it doesn't hold the stone
  pub theirs_at : is_held n (slice_set g p (Some c)) (other c) p ≡ false
  theirs_at = elim (cases_Bool (is_held n (slice_set g p (Some c)) (other c) p)) [
    | inl there ↦ elim (held_cases n (slice_set g p (Some c)) (other c) p there) [
      | inl stone ↦ absurd (other_differs c (let e = sym at_stone ∙ stone in cc))
      | inr further ↦ absurd (off_empty p further.0 refl)
    ]
    | inr none ↦ none
  ]

  -- where the other colour didn't hold the point before, it holds what it held
  module _ (free : is_held n g (other c) p ≡ false) where
    theirs_after : (x : ℕ) → x < n * n → is_held n g (other c) x ≡ true →
        is_held n (slice_set g p (Some c)) (other c) x ≡ true
    theirs_after x x_low before =
        held_passes n g (other c) (is_held n (slice_set g p (Some c)) (other c))
        (λ y y_low stone. old_stone y (other c) stone)
        (λ y z adjacent none passes. elim (cases_eq y p) [
          | inl same ↦ absurd (true≢false
              (sym (held_beside n g (other c) p z (subst (λ (k : ℕ). IsAdjacent n k z) same adjacent) empty
              (theirs_before z adjacent.1 passes)) ∙ free))
          | inr off ↦ held_beside n (slice_set g p (Some c)) (other c) y z adjacent (off_stone y off ∙ none) passes
        ])
        x x_low before

    pub theirs_same : (x : ℕ) → x < n * n → is_held n (slice_set g p (Some c)) (other c) x ≡ is_held n g (other c) x
    theirs_same x x_low = same_test (is_held n (slice_set g p (Some c)) (other c) x) (is_held n g (other c) x)
        (theirs_before x x_low) (theirs_after x x_low)

  -- what the other colour holds isn't of this one
  not_own : (x : ℕ) → is_held n (slice_set g p (Some c)) (other c) x ≡ true → colour_at g x ≢ Some c
  not_own x held stone =
      let now : colour_at (slice_set g p (Some c)) x ≡ Some c = off_stone x (off_old x c stone) ∙ stone in
      elim (held_cases n (slice_set g p (Some c)) (other c) x held) [
        | inl other_stone ↦ other_differs c (let e = sym now ∙ other_stone in cc)
        | inr further ↦ let bad = sym now ∙ further.0 in cc
      ]

  -- where the other colour held the point, and what it holds of the points beside it that have no stone of this one it holds
  -- of all of them, it holds what it held but for the point
  module _ (theirs : is_held n g (other c) p ≡ true)
      (round : (x y : ℕ) → IsAdjacent n p x → IsAdjacent n p y → colour_at g x ≢ Some c → colour_at g y ≢ Some c
      → is_held n (slice_set g p (Some c)) (other c) x ≡ true →
      is_held n (slice_set g p (Some c)) (other c) y ≡ true) where
    -- if one of those points weren't held, none would be, nor the point itself before
    beside_held : (x : ℕ) → IsAdjacent n p x → colour_at g x ≢ Some c →
        is_held n (slice_set g p (Some c)) (other c) x ≡ true
    beside_held x beside differs = elim (cases_Bool (is_held n (slice_set g p (Some c)) (other c) x)) [
      | inl there ↦ there
      | inr none ↦
          let at : is_held n (slice_set g p (Some c)) (other c) p ≡ true =
          held_passes n g (other c) (is_held n (slice_set g p (Some c)) (other c))
          (λ y y_low stone. old_stone y (other c) stone)
          (λ y z adjacent no_stone passes. elim (cases_eq y p) [
            | inl same ↦ absurd (true≢false
                (sym (round z x (subst (λ (k : ℕ). IsAdjacent n k z) same adjacent) beside (not_own z passes) differs
                passes) ∙ none))
            | inr off ↦ held_beside n (slice_set g p (Some c)) (other c) y z adjacent (off_stone y off ∙ no_stone)
                passes
          ])
          p low theirs in
          absurd (true≢false (sym at ∙ theirs_at))
    ]

    theirs_left : (x : ℕ) → x < n * n → x ≢ p → is_held n g (other c) x ≡ true →
        is_held n (slice_set g p (Some c)) (other c) x ≡ true
    theirs_left x x_low off before =
        let test : ℕ → Bool = λ y. is_held n (slice_set g p (Some c)) (other c) y || (y == p) in
        let passed : test x ≡ true = held_passes n g (other c) test
        (λ y y_low stone. or_left (is_held n (slice_set g p (Some c)) (other c) y) (y == p)
        (old_stone y (other c) stone))
        (λ y z adjacent none passes. elim (cases_eq y p) [
          | inl same ↦ or_right (is_held n (slice_set g p (Some c)) (other c) y) (y == p) (eq-eqb y p same)
          | inr y_off ↦ or_left (is_held n (slice_set g p (Some c)) (other c) y) (y == p)
              (elim (or_cases (is_held n (slice_set g p (Some c)) (other c) z) (z == p) passes) [
                | inl z_held ↦ held_beside n (slice_set g p (Some c)) (other c) y z adjacent (off_stone y y_off ∙ none)
                    z_held
                | inr z_at ↦ beside_held y (adjacent-sym n y p
                    (subst (λ (k : ℕ). IsAdjacent n y k) (eqb-true z p z_at) adjacent))
                    (λ stone. (let bad = sym stone ∙ none in cc))
              ])
        ])
        x x_low before in
        elim (or_cases (is_held n (slice_set g p (Some c)) (other c) x) (x == p) passed)
        [ inl held ↦ held | inr at ↦ absurd (off (eqb-true x p at)) ]

    pub theirs_but : (x : ℕ) → x < n * n → x ≢ p →
        is_held n (slice_set g p (Some c)) (other c) x ≡ is_held n g (other c) x
    theirs_but x x_low off = same_test (is_held n (slice_set g p (Some c)) (other c) x) (is_held n g (other c) x)
        (theirs_before x x_low) (theirs_left x x_low off)

pub other_twice : (c : Colour) → other (other c) ≡ c
other_twice Black = refl
other_twice White = refl

-- a point counts where the colour alone holds it
area_by_held : (n : ℕ) (g : Colouring) (c : Colour) (x : ℕ) →
    (is_held n g c x && not (is_held n g (other c) x)) ≡ is_area n g c x
area_by_held n g c x = alone_is c (colour_at g x) (reaches n g x (Some c)) (reaches n g x (Some (other c)))

theirs_by_held : (n : ℕ) (g : Colouring) (c : Colour) (x : ℕ) →
    (is_held n g (other c) x && not (is_held n g c x)) ≡ is_area n g (other c) x
theirs_by_held n g c x = ap (λ (d : Colour). is_held n g (other c) x && not (is_held n g d x)) (sym (other_twice c))
    ∙ area_by_held n g (other c) x

areas_same : (n : ℕ) (g h : Colouring) (c : Colour) → ((x : ℕ) → x < n * n → is_area n h c x ≡ is_area n g c x) →
    area n h c ≡ area n g c
unfolding area
areas_same n g h c same = count_agree (is_area n h c) (is_area n g c) (points n)
    (on_points n (λ x. is_area n h c x ≡ is_area n g c x) same)

-- 1 for a test that passes
abbrev one_if : Bool → ℕ
one_if b = cond b 1 0

count_suc : (test : ℕ → Bool) (k : ℕ) →
    count_by test (range_with_len 0 (suc k)) ≡ count_by test (range_with_len 0 k) + one_if (test k)
count_suc test k = ap (λ m. count_by test (range_with_len 0 m)) (let e : suc k ≡ k + 1 = omega arith in e)
    ∙ count_more test k

count_below : (a b : ℕ → Bool) (k : ℕ) → ((x : ℕ) → x < k → a x ≡ b x) →
    count_by a (range_with_len 0 k) ≡ count_by b (range_with_len 0 k)
count_below a b zero same = refl
count_below a b (suc k) same =
    let rest = count_below a b k (λ x low. same x (omega arith)) in
    let one : one_if (a k) ≡ one_if (b k) = ap one_if (same k (omega arith)) in
    omega (arith, rest, one, count_suc a k, count_suc b k)

-- a test that one number more passes
count_one : (a b : ℕ → Bool) (p : ℕ) → a p ≡ true → b p ≡ false → (k : ℕ) → p < k →
    ((x : ℕ) → x < k → x ≢ p → a x ≡ b x)
    → count_by a (range_with_len 0 k) ≡ count_by b (range_with_len 0 k) + 1
count_one a b p passes fails zero low same = absurd (omega arith)
count_one a b p passes fails (suc k) low same = elim (cases_eq k p) [
  | inl at ↦
      let rest = count_below a b k (λ x x_low. same x (omega arith) (omega arith)) in
      let one : one_if (a k) ≡ 1 = ap one_if (ap a at ∙ passes) in
      let none : one_if (b k) ≡ 0 = ap one_if (ap b at ∙ fails) in
      omega (arith, rest, one, none, count_suc a k, count_suc b k)
  | inr off ↦
      let rest = count_one a b p passes fails k (omega arith) (λ x x_low x_off. same x (omega arith) x_off) in
      let one : one_if (a k) ≡ one_if (b k) = ap one_if (same k (omega arith) off) in
      omega (arith, rest, one, count_suc a k, count_suc b k)
]

area_one : (n : ℕ) (g h : Colouring) (c : Colour) (p : ℕ) → p < n * n → is_area n h c p ≡ true → is_area n g c p ≡ false
    → ((x : ℕ) → x < n * n → x ≢ p → is_area n h c x ≡ is_area n g c x) → area n h c ≡ area n g c + 1
unfolding area
area_one n g h c p low here before same = count_one (is_area n h c) (is_area n g c) p here before (n * n) low same

-- a stone where its colour alone held the point gains nothing
pub gains_nothing : (n : ℕ) (g : Colouring) (c : Colour) (p : ℕ) → length g ≡ n * n → p < n * n → colour_at g p ≡ None
    → is_held n g c p ≡ true → is_held n g (other c) p ≡ false → Gains n g c p 0
gains_nothing n g c p whole low empty held free =
    let h = slice_set g p (Some c) in
    let own = areas_same n g h c (λ x x_low. sym (area_by_held n h c x)
    ∙ ap₂ (λ a b. a && not b) (own_same n g c p whole low empty held x x_low)
    (theirs_same n g c p whole low empty free x x_low) ∙ area_by_held n g c x) in
    record {
      own = omega (arith, own);
      theirs = areas_same n g h (other c) (λ x x_low. sym (theirs_by_held n h c x)
          ∙ ap₂ (λ a b. a && not b) (theirs_same n g c p whole low empty free x x_low)
          (own_same n g c p whole low empty held x x_low) ∙ theirs_by_held n g c x);
    }

-- the points beside p of which the other colour holds one with the stone are all held by it, if they have no stone of c
abbrev AreHeldRound : ℕ → Colouring → Colour → ℕ → Type 0
AreHeldRound n g c p = (x y : ℕ) → IsAdjacent n p x → IsAdjacent n p y → colour_at g x ≢ Some c → colour_at g y ≢ Some c
    → is_held n (slice_set g p (Some c)) (other c) x ≡ true → is_held n (slice_set g p (Some c)) (other c) y ≡ true

-- a stone where both held the point gains the point, if the other colour still holds the others
pub gains_point : (n : ℕ) (g : Colouring) (c : Colour) (p : ℕ) → length g ≡ n * n → p < n * n → colour_at g p ≡ None
    → is_held n g c p ≡ true → is_held n g (other c) p ≡ true → AreHeldRound n g c p → Gains n g c p 1
gains_point n g c p whole low empty held theirs round =
    let h = slice_set g p (Some c) in
    let now : is_held n h c p ≡ true = own_same n g c p whole low empty held p low ∙ held in
    let gone = theirs_at n g c p whole low empty in
    record {
      own = area_one n g h c p low
          (sym (area_by_held n h c p) ∙ ap₂ (λ a b. a && not b) now gone)
          (sym (area_by_held n g c p) ∙ ap₂ (λ a b. a && not b) held theirs)
          (λ x x_low off. sym (area_by_held n h c x)
          ∙ ap₂ (λ a b. a && not b) (own_same n g c p whole low empty held x x_low)
          (theirs_but n g c p whole low empty theirs round x x_low off) ∙ area_by_held n g c x);
      theirs = areas_same n g h (other c) (λ x x_low. elim (cases_eq x p) [
        | inl same ↦ ap (is_area n h (other c)) same
            ∙ (sym (theirs_by_held n h c p) ∙ ap₂ (λ a b. a && not b) gone now)
            ∙ sym (sym (theirs_by_held n g c p) ∙ ap₂ (λ a b. a && not b) theirs held)
            ∙ ap (is_area n g (other c)) (sym same)
        | inr off ↦ sym (theirs_by_held n h c x)
            ∙ ap₂ (λ a b. a && not b) (theirs_but n g c p whole low empty theirs round x x_low off)
            (own_same n g c p whole low empty held x x_low) ∙ theirs_by_held n g c x
      ]);
    }

-- what is joined around a place is held around its point
module _ (n : ℕ) (g : Colouring) (c : Colour) (row col : ℕ) (own : List ℕ) (whole : length g ≡ n * n)
    (row_low : row < n) (col_low : col < n)
    (low : row * n + col < n * n) (empty : colour_at g (row * n + col) ≡ None) (stones : AreStones n g c own) where
  off_point : (r k : ℕ) → k < n → ((r ≡ row) × (k ≡ col) → ⊥) → r * n + k ≢ row * n + col
  off_point r k k_low off same =
      off (
        sym (row_back n r k k_low) ∙ ap (λ m. m / n) same ∙ row_back n row col col_low,
        sym (col_back n r k k_low)
            ∙ ap (λ m. m % n) same ∙ col_back n row col col_low,
      )

  passes_round : PassesRound (on_held n (slice_set g (row * n + col) (Some c)) (other c)) own n row col
  passes_round r k r' k' next passes vacant off =
      let h = slice_set g (row * n + col) (Some c) in
      let from = (on_held_is n h (other c) r' k').0 passes in
      let adjacent = adjacent_from_next n r k r' k' vacant.0 vacant.1 from.0 from.1 next in
      let held : is_held n h (other c) (r * n + k) ≡ true = elim (colour_cases c (colour_at g (r * n + k))) [
        | inl none ↦ held_beside n h (other c) (r * n + k) (r' * n + k') adjacent
            (off_stone n g c (row * n + col) whole low empty (r * n + k) (off_point r k vacant.1 off) ∙ none) from.2
        | inr (inl stone) ↦ absurd (vacant.2 ((stones r k).1 (vacant.0, vacant.1, stone)))
        | inr (inr stone) ↦ old_stone n g c (row * n + col) whole low empty (r * n + k) (other c) stone
      ] in
      (on_held_is n h (other c) r k).1 (vacant.0, vacant.1, held)

  -- a point beside it is next to it by its row and column
  next_place : (x : ℕ) → IsAdjacent n (row * n + col) x → IsNext row col (x / n) (x % n)
  next_place x adjacent =
      let next = next_from_beside (point_at n (row * n + col)) (point_at n x) adjacent.2 in
      subst (λ (k : ℕ). IsNext row k (x / n) (x % n)) (col_back n row col col_low)
      (subst (λ (r : ℕ). IsNext r ((row * n + col) % n) (x / n) (x % n)) (row_back n row col col_low) next)

  open_place : (x : ℕ) → x < n * n → colour_at g x ≢ Some c → IsOpen own n (x / n) (x % n)
  open_place x x_low differs =
      let on = IsOn-point_at n x x_low in (
        on.1,
        on.0,
        λ inside. differs (ap (colour_at g) (sym (number_of-point_at n x x_low))
            ∙ ((stones (x / n) (x % n)).0 inside).2),
      )

  pub held_round : AreJoinedRound own n row col → AreHeldRound n g c (row * n + col)
  held_round joined x y x_beside y_beside x_differs y_differs held =
      let h = slice_set g (row * n + col) (Some c) in
      let x_on = IsOn-point_at n x x_beside.1 in
      let here : on_held n h (other c) (x / n) (x % n) ≡ true =
      (on_held_is n h (other c) (x / n) (x % n)).1
      (x_on.1, x_on.0, ap (is_held n h (other c)) (number_of-point_at n x x_beside.1) ∙ held) in
      let there = joined (on_held n h (other c)) passes_round (x / n) (x % n) (y / n) (y % n) (next_place x x_beside)
      (next_place y y_beside)
      (open_place x x_beside.1 x_differs) (open_place y y_beside.1 y_differs) here in
      ap (is_held n h (other c)) (sym (number_of-point_at n y y_beside.1))
      ∙ ((on_held_is n h (other c) (y / n) (y % n)).0 there).2
