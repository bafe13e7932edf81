-- The first of the best in a list of points, and how it is found one point after the other.
use Rattle.std.proofs.Common.{arith, ◌≡◌, ◌∙◌, ◌<◌, ◌≤◌, ◌+◌, ◌*◌, ◌&&◌, ◌||◌, ◌⊎◌, inl, inr, ℕ, zero, suc, ℤ, Bool, true, false, not, true≢false, List, [], ◌∷◌, Some, None, Option, filter, cond, if◌then◌else◌, refl, sym, ap, ap₂, subst}
use Rattle.std.specs.Prelude.{int_lt}
use Rattle.std.specs.List.{list_any, range_with_len}
use Rattle.std.proofs.lemmas.Bool.{cases_Bool, cases_lt, or_right}
use Rattle.std.proofs.lemmas.Bool.Decides.{nat_tests}
use Rattle.std.proofs.lemmas.Int.{ints}
use Rattle.go_board.specs.declared.colour.Colour.{Colour}
use Rattle.go_board.specs.declared.point.Point.{Point}
use Rattle.go_board.specs.declared.vertex.Vertex.{Vertex}
use Rattle.go_board.specs.declared.vertex.Vertex.TheVariants.{Pass, At}
use Rattle.go_board.specs.Colours.{Colouring}
use Rattle.go_board.specs.Points.{number_of, point_at}
use Rattle.go_board.specs.Reaching.{moved}
use Rattle.go_game.specs.declared.choice.Trial.{Trial}
use Rattle.go_game.specs.Choices.{chosen, first_or_pass, is_better, lead_after, lead_of, lead_on, liberties_after, liberties_on, may_play, outranks, raises_margin}
use Rattle.go_game.specs.Legal.{is_legal}
use Rattle.go_game.specs.Standings.{Standing, board_of, with_move}
use Rattle.go_game.specs.inner.Trials.{IsBestBelow, IsBestTrial, beats, better_of, trial_at, tried, tried_on}
use Rattle.go_game.proofs.Played.{board_push}

-- the order of leads and liberties
pub outranks-self : (a : ℤ) (b : ℕ) → outranks a b a b ≡ false
outranks-self a b = grind (arith, ints, nat_tests)

-- what is better than p is better than all that aren't
pub outranks-over : (a : ℤ) (b : ℕ) (c : ℤ) (d : ℕ) (e : ℤ) (f : ℕ) → outranks a b c d ≡ true →
    outranks e f c d ≡ false → outranks a b e f ≡ true
outranks-over a b c d e f over under = grind (arith, ints, nat_tests)

-- and none of these is better than it
pub outranks-under : (a : ℤ) (b : ℕ) (c : ℤ) (d : ℕ) (e : ℤ) (f : ℕ) → outranks a b c d ≡ true →
    outranks e f c d ≡ false → outranks e f a b ≡ false
outranks-under a b c d e f over under = grind (arith, ints, nat_tests)

-- a greater lead is better
pub outranks-greater : (standing_lead a : ℤ) (b : ℕ) (c : ℤ) (d : ℕ) → int_lt standing_lead a ≡ true →
    int_lt standing_lead c ≡ false → outranks a b c d ≡ true
outranks-greater standing_lead a b c d more less = grind (arith, ints, nat_tests)

-- lists of numbers that pass tests
cond_and : {X : Type 0} (a b : Bool) (x : X) (xs ys : List X) (f : List X → List X) → f (x ∷ xs) ≡ cond b (x ∷ ys) ys →
    f xs ≡ ys → f (cond a (x ∷ xs) xs) ≡ cond (a && b) (x ∷ ys) ys
cond_and true b x xs ys f here rest = here
cond_and false b x xs ys f here rest = rest

filter-filter : {X : Type 0} (f g : X → Bool) (xs : List X) → filter f (filter g xs) ≡ filter (λ x. g x && f x) xs
filter-filter f g [] = refl
filter-filter f g (x ∷ xs) =
    cond_and (g x) (f x) x (filter g xs) (filter (λ y. g y && f y) xs) (filter f)
    (ap (λ ys. cond (f x) (x ∷ ys) ys) (filter-filter f g xs)) (filter-filter f g xs)

any_cond : {X : Type 0} (f : X → Bool) (a rest : Bool) (x : X) (xs : List X) → list_any f xs ≡ rest →
    list_any f (cond a (x ∷ xs) xs) ≡ ((a && f x) || rest)
any_cond f true rest x xs e = ap (λ b. f x || b) e
any_cond f false rest x xs e = e

any-filter : {X : Type 0} (f g : X → Bool) (xs : List X) → list_any f (filter g xs) ≡ list_any (λ x. g x && f x) xs
any-filter f g [] = refl
any-filter f g (x ∷ xs) = any_cond f (g x) (list_any (λ y. g y && f y) xs) x (filter g xs) (any-filter f g xs)

none_any : (test : ℕ → Bool) (a m : ℕ) → ((q : ℕ) → a ≤ q → q < a + m → test q ≡ false) →
    list_any test (range_with_len a m) ≡ false
none_any test a zero none = refl
none_any test a (suc m) none =
    ap₂ (λ x y. x || y) (none a (omega arith) (omega arith))
    (none_any test (a + 1) m (λ q low high. none q (omega arith) (omega arith)))

some_any : (test : ℕ → Bool) (a m q : ℕ) → a ≤ q → q < a + m → test q ≡ true → list_any test (range_with_len a m) ≡ true
some_any test a zero q low high e = absurd (omega arith)
some_any test a (suc m) q low high e = elim (cases_lt a q) [
  | inl later ↦ or_right (test a) (list_any test (range_with_len (a + 1) m))
      (some_any test (a + 1) m q (omega arith) (omega arith) e)
  | inr here ↦ ap (λ b. b || list_any test (range_with_len (a + 1) m))
      (ap test (let same : a ≡ q = omega arith in same) ∙ e)
]

first_there : (n : ℕ) (test : ℕ → Bool) (a m p : ℕ) → a ≤ p → p < a + m → test p ≡ true
    → ((q : ℕ) → a ≤ q → q < p → test q ≡ false) →
    first_or_pass n (filter test (range_with_len a m)) ≡ At (point_at n p)
first_there n test a zero p low high here before = absurd (omega arith)
first_there n test a (suc m) p low high here before = elim (cases_lt a p) [
  | inl later ↦
      ap (λ b. first_or_pass n (cond b (a ∷ filter test (range_with_len (a + 1) m))
      (filter test (range_with_len (a + 1) m)))) (before a (omega arith) later)
      ∙ first_there n test (a + 1) m p (omega arith) (omega arith) here (λ q above below. before q (omega arith) below)
  | inr now ↦
      let same : a ≡ p = omega arith in
      ap (λ b. first_or_pass n (cond b (a ∷ filter test (range_with_len (a + 1) m))
      (filter test (range_with_len (a + 1) m)))) (ap test same ∙ here)
      ∙ ap (λ k. At (point_at n k)) same
]

first_nowhere : (n : ℕ) (test : ℕ → Bool) (a m : ℕ) → ((q : ℕ) → a ≤ q → q < a + m → test q ≡ false) →
    first_or_pass n (filter test (range_with_len a m)) ≡ Pass
first_nowhere n test a zero none = refl
first_nowhere n test a (suc m) none =
    ap (λ b. first_or_pass n (cond b (a ∷ filter test (range_with_len (a + 1) m))
    (filter test (range_with_len (a + 1) m)))) (none a (omega arith) (omega arith))
    ∙ first_nowhere n test (a + 1) m (λ q low high. none q (omega arith) (omega arith))

-- the first of the best, among m points of which some may be played and some raise the margin
module _ (n m : ℕ) (may raises : ℕ → Bool) (better : ℕ → ℕ → Bool) where
  abbrev best : ℕ → Bool
  best p = not (list_any (λ q. better q p) (filter may (range_with_len 0 m)))

  abbrev pick : Vertex
  pick = first_or_pass n (filter raises (filter best (filter may (range_with_len 0 m))))

  abbrev passes : ℕ → Bool
  passes p = (may p && best p) && raises p

  pick_is : pick ≡ first_or_pass n (filter passes (range_with_len 0 m))
  pick_is =
      ap (λ ps. first_or_pass n (filter raises ps)) (filter-filter best may (range_with_len 0 m))
      ∙ ap (first_or_pass n) (filter-filter raises (λ p. may p && best p) (range_with_len 0 m))

  unbeaten : (p : ℕ) → ((q : ℕ) → q < m → may q ≡ true → better q p ≡ false) → best p ≡ true
  unbeaten p all = ap not (any-filter (λ q. better q p) may (range_with_len 0 m)
      ∙ none_any (λ q. may q && better q p) 0 m (λ q low high. fails q (omega arith)))
    where
      fails : (q : ℕ) → q < m → (may q && better q p) ≡ false
      fails q low = elim (cases_Bool (may q)) [
        | inl allowed ↦ ap₂ (λ x y. x && y) allowed (all q low allowed)
        | inr none ↦ ap (λ x. x && better q p) none
      ]

  beaten : (p q : ℕ) → q < m → may q ≡ true → better q p ≡ true → best p ≡ false
  beaten p q low legal e =
      ap not (any-filter (λ r. better r p) may (range_with_len 0 m)
      ∙ some_any (λ r. may r && better r p) 0 m q (omega arith) (omega arith) (ap₂ (λ x y. x && y) legal e))

  and_false : (a b : Bool) → b ≡ false → (a && b) ≡ false
  and_false true b e = e
  and_false false b e = refl

  pub pick_first : (p : ℕ) → p < m → may p ≡ true → raises p ≡ true →
      ((q : ℕ) → q < m → may q ≡ true → better q p ≡ false) → ((q : ℕ) → q < p → may q ≡ true → better p q ≡ true)
      → At (point_at n p) ≡ pick
  pick_first p low legal more none first =
      sym (pick_is ∙ first_there n passes 0 m p (omega arith) (omega arith)
      (ap₂ (λ x y. x && y) (ap₂ (λ x y. x && y) legal (unbeaten p none)) more) (λ q above below. before q below))
    where
      before : (q : ℕ) → q < p → passes q ≡ false
      before q below = elim (cases_Bool (may q)) [
        | inl allowed ↦ ap (λ b. b && raises q)
            (and_false (may q) (best q) (beaten q p low legal (first q below allowed)))
        | inr none ↦ ap (λ b. (b && best q) && raises q) none
      ]

  pub pick_pass : ((q : ℕ) → q < m → may q ≡ true → raises q ≡ false) → Pass ≡ pick
  pick_pass none = sym (pick_is ∙ first_nowhere n passes 0 m (λ q above below. fails q (omega arith)))
    where
      fails : (q : ℕ) → q < m → passes q ≡ false
      fails q low = elim (cases_Bool (may q)) [
        | inl allowed ↦ and_false (may q && best q) (raises q) (none q low allowed)
        | inr closed ↦ ap (λ b. (b && best q) && raises q) closed
      ]

-- the best trial of all points is of the choice, where it raises the margin
pub chosen_none : (s : Standing) (c : Colour) (best : Option Trial) → best ≡ None →
    IsBestTrial s c (s.lines * s.lines) best → Pass ≡ chosen s c
unfolding chosen
chosen_none s c best is none =
    pick_pass s.lines (s.lines * s.lines) (may_play s c) (raises_margin s c) (is_better s c)
    (λ q low legal. absurd (true≢false (sym legal ∙ subst (IsBestTrial s c (s.lines * s.lines)) is none q low)))

module _ (s : Standing) (c : Colour) (best : Option Trial) (t : Trial) (standing_lead lead : ℤ) (is : best ≡ Some t)
    (trial : IsBestTrial s c (s.lines * s.lines) best)
    (standing_is : standing_lead ≡ lead_of s c) (lead_is : lead ≡ t.lead) where
  best_of : IsBestTrial s c (s.lines * s.lines) (Some t)
  best_of = subst (IsBestTrial s c (s.lines * s.lines)) is trial

  raises_is : raises_margin s c best_of.0 ≡ int_lt standing_lead lead
  raises_is = ap₂ int_lt (sym standing_is) (ap (λ (u : Trial). u.lead) (sym best_of.2) ∙ sym lead_is)

  pub chosen_play : int_lt standing_lead lead ≡ true → At t.point ≡ chosen s c
  unfolding chosen
  chosen_play more =
      ap (λ (u : Trial). At u.point) best_of.2
      ∙ pick_first s.lines (s.lines * s.lines) (may_play s c) (raises_margin s c) (is_better s c) best_of.0
      best_of.1.below best_of.1.legal (raises_is ∙ more) best_of.1.best best_of.1.first

  pub chosen_pass : int_lt standing_lead lead ≡ false → Pass ≡ chosen s c
  unfolding chosen
  chosen_pass less = pick_pass s.lines (s.lines * s.lines) (may_play s c) (raises_margin s c) (is_better s c)
      (λ q low legal. not_more q (best_of.1.best q low legal))
    where
      not_more : (q : ℕ) → is_better s c q best_of.0 ≡ false → raises_margin s c q ≡ false
      not_more q worse = elim (cases_Bool (raises_margin s c q)) [
        | inl more ↦
            absurd (true≢false (sym (outranks-greater (lead_of s c) (lead_after s c q) (liberties_after s c q)
            (lead_after s c best_of.0) (liberties_after s c best_of.0) more (raises_is ∙ less)) ∙ worse))
        | inr none ↦ none
      ]

abbrev trial_of : Point → ℤ → ℕ → Trial
trial_of p lead liberties = record { point = p; lead = lead; liberties = liberties }

-- the trial of a play is that of its point's number
pub tried_at : (s : Standing) (c : Colour) (n : ℕ) (p : Point) (k : ℕ) → n ≡ s.lines → p ≡ point_at n k →
    number_of n p ≡ k → tried_on s c p ≡ tried s c k
tried_at s c n p k size at number =
    ap (λ q. let t : Option Trial = if is_legal s c (At q) then
    Some (trial_of q (lead_after s c (number_of s.lines p)) (liberties_after s c (number_of s.lines p))) else
    None in t) here
    ∙ ap (λ j. let t : Option Trial = if may_play s c k then
    Some (trial_of (point_at s.lines k) (lead_after s c j) (liberties_after s c j)) else None in t) numbered
  where
    here : p ≡ point_at s.lines k
    here = at ∙ ap (λ m. point_at m k) size

    numbered : number_of s.lines p ≡ k
    numbered = ap (λ m. number_of m p) (sym size) ∙ number

-- what is told of the colouring that a legal play leaves is its trial
pub tried_as : (s : Standing) (c : Colour) (p : Point) (g : Colouring) (lead : ℤ) (liberties : ℕ) →
    is_legal s c (At p) ≡ true → g ≡ moved s.lines (board_of s) c (number_of s.lines p)
    → lead ≡ lead_on s.lines g c → liberties ≡ liberties_on s.lines g (number_of s.lines p) →
    Some (trial_of p lead liberties) ≡ tried_on s c p
tried_as s c p g lead liberties allowed is lead_is liberties_is =
    ap Some (ap₂ (trial_of p) (lead_is ∙ ap (λ h. lead_on s.lines h c) is)
    (liberties_is ∙ ap (λ h. liberties_on s.lines h (number_of s.lines p)) is))
    ∙ sym (ap (λ b. cond b (Some (trial_of p (lead_after s c (number_of s.lines p))
    (liberties_after s c (number_of s.lines p)))) None) allowed)

-- what is read off the game after a legal play is its trial
pub tried_is : (s after : Standing) (c : Colour) (p : Point) (lead' lead : ℤ) (liberties : ℕ) →
    is_legal s c (At p) ≡ true → after ≡ with_move s (record { colour = c; vertex = At p })
    → lead' ≡ lead → lead ≡ lead_of after c →
    liberties ≡ liberties_on after.lines (board_of after) (number_of after.lines p)
    → Some (trial_of p lead' liberties) ≡ tried_on s c p
tried_is s after c p lead' lead liberties allowed after_is same lead_is liberties_is =
    tried_as s c p (board_of after) lead' liberties allowed grid
    (same ∙ lead_is ∙ ap (λ m. lead_on m (board_of after) c) lines)
    (liberties_is ∙ ap (λ m. liberties_on m (board_of after) (number_of m p)) lines)
  where
    lines : after.lines ≡ s.lines
    lines = ap (λ (t : Standing). t.lines) after_is

    grid : board_of after ≡ moved s.lines (board_of s) c (number_of s.lines p)
    grid = ap board_of after_is ∙ board_push s.lines s.start s.moves (record { colour = c; vertex = At p })

-- one point more
below_more : (i q : ℕ) → q < i + 1 → (q < i) ⊎ (q ≡ i)
below_more i q low = elim (cases_lt q i) [ inl before ↦ inl before | inr last ↦ inr (omega arith) ]

module _ (s : Standing) (c : Colour) where
  better-self : (p : ℕ) → is_better s c p p ≡ false
  better-self p = outranks-self (lead_after s c p) (liberties_after s c p)

  better-over : (p q r : ℕ) → is_better s c p q ≡ true → is_better s c r q ≡ false → is_better s c p r ≡ true
  better-over p q r = outranks-over (lead_after s c p) (liberties_after s c p) (lead_after s c q)
      (liberties_after s c q) (lead_after s c r) (liberties_after s c r)

  better-under : (p q r : ℕ) → is_better s c p q ≡ true → is_better s c r q ≡ false → is_better s c r p ≡ false
  better-under p q r = outranks-under (lead_after s c p) (liberties_after s c p) (lead_after s c q)
      (liberties_after s c q) (lead_after s c r) (liberties_after s c r)

module _ (s : Standing) (c : Colour) (i : ℕ) where
  none_more : IsBestTrial s c i None → may_play s c i ≡ false → IsBestTrial s c (i + 1) None
  none_more none closed p low = elim (below_more i p low)
      [ inl before ↦ none p before | inr here ↦ ap (may_play s c) here ∙ closed ]

  first_found : IsBestTrial s c i None → may_play s c i ≡ true → IsBestBelow s c (i + 1) i
  first_found none allowed = record {
    below = omega arith;
    legal = allowed;
    best = λ q low legal. elim (below_more i q low) [
      | inl before ↦ absurd (true≢false (sym legal ∙ none q before))
      | inr here ↦ ap (λ r. is_better s c r i) here ∙ better-self s c i
    ];
    first = λ q low legal. absurd (true≢false (sym legal ∙ none q low));
  }

  best_kept : (p : ℕ) → IsBestBelow s c i p → (may_play s c i ≡ true → is_better s c i p ≡ false) →
      IsBestBelow s c (i + 1) p
  best_kept p h worse = record {
    below = let low = h.below in omega (arith, low);
    legal = h.legal;
    best = λ q low legal. elim (below_more i q low) [
      | inl before ↦ h.best q before legal
      | inr here ↦ ap (λ r. is_better s c r p) here ∙ worse (ap (may_play s c) (sym here) ∙ legal)
    ];
    first = h.first;
  }

  best_taken : (p : ℕ) → IsBestBelow s c i p → may_play s c i ≡ true → is_better s c i p ≡ true →
      IsBestBelow s c (i + 1) i
  best_taken p h allowed over = record {
    below = omega arith;
    legal = allowed;
    best = λ q low legal. elim (below_more i q low) [
      | inl before ↦ better-under s c i p q over (h.best q before legal)
      | inr here ↦ ap (λ r. is_better s c r i) here ∙ better-self s c i
    ];
    first = λ q low legal. better-over s c i p q over (h.best q low legal);
  }

  -- the better one of the best so far and the trial of the next point
  pub tried_next : (b : Bool) (best : Option Trial) → may_play s c i ≡ b → IsBestTrial s c i best →
      IsBestTrial s c (i + 1) (better_of best (cond b (Some (trial_at s c i)) None))
  tried_next true None allowed none = (i, first_found none allowed, refl)
  tried_next false None closed none = none_more none closed
  tried_next false (Some t) closed h =
      (h.0, best_kept h.0 h.1 (λ allowed. absurd (true≢false (sym allowed ∙ closed))), h.2)
  tried_next true (Some t) allowed h = taken (beats (trial_at s c i) t) refl
    where
      taken : (over : Bool) → beats (trial_at s c i) t ≡ over →
          IsBestTrial s c (i + 1) (cond over (Some (trial_at s c i)) (Some t))
      taken true over = (i, best_taken h.0 h.1 allowed (ap (beats (trial_at s c i)) (sym h.2) ∙ over), refl)
      taken false under = (h.0, best_kept h.0 h.1 (λ legal. ap (beats (trial_at s c i)) (sym h.2) ∙ under), h.2)

-- one turn of the search, over a game that stays as it was
pub best_more : (start now : Standing) (c : Colour) (i : ℕ) (best trial best' : Option Trial) → now ≡ start →
    IsBestTrial start c i best → trial ≡ tried now c i
    → best' ≡ better_of best trial → IsBestTrial start c (i + 1) best'
best_more start now c i best trial best' same h tried_here better =
    subst (IsBestTrial start c (i + 1))
    (sym (better ∙ ap (better_of best) (tried_here ∙ ap (λ (s : Standing). tried s c i) same)))
    (tried_next start c i (may_play start c i) best refl h)
