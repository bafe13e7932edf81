-- The choice is what its rule asks for.
use Rattle.std.proofs.Common.{arith, ◌≡◌, ◌∙◌, ◌<◌, ◌+◌, ◌*◌, ◌↔◌, ◌⊎◌, inl, inr, ℕ, zero, suc, ℤ, true, false, true≢false, Some, None, Option, refl, sym, ap, subst}
use Rattle.std.specs.Prelude.{◌<ℤ◌, ◌≤ℤ◌, int_lt}
use Rattle.std.proofs.lemmas.Bool.{cases_Bool, false_from_ne_true}
use Rattle.std.proofs.lemmas.Bool.Decides.{nat_tests}
use Rattle.std.proofs.lemmas.Int.{ints}
use Rattle.go_board.specs.declared.colour.Colour.{Colour}
use Rattle.go_board.specs.declared.point.Point.{Point}
use Rattle.go_board.specs.declared.vertex.Vertex.{Vertex}
use Rattle.go_board.specs.declared.vertex.Vertex.TheVariants.{Pass, At}
use Rattle.go_board.specs.Points.{IsOn, number_of, point_at}
use Rattle.go_game.specs.declared.choice.Trial.{Trial}
use Rattle.go_game.specs.Choices.{IsBetter, IsChoice, IsChosenPlay, chosen, is_better, lead_after, lead_of, liberties_after, may_play, outranks, raises_margin}
use Rattle.go_game.specs.Standings.{IsLegal, Standing}
use Rattle.go_game.specs.inner.Trials.{IsBestBelow, IsBestTrial, better_of, trial_at, tried}
use Rattle.go_game.proofs.Choosing.{chosen_none, chosen_pass, chosen_play, outranks-greater, pick_first, pick_pass, tried_next}
use Rattle.go_game.specs.Legal.{is_legal}
use Rattle.go_game.proofs.Legal.{legal_passes, passes_legal}

less : (a b : ℤ) → int_lt a b ≡ true → a <ℤ b
less a b e = grind (arith, ints)

less_test : (a b : ℤ) → a <ℤ b → int_lt a b ≡ true
less_test a b h = grind (arith, ints)

no_less : (a b : ℤ) → int_lt a b ≡ false → b ≤ℤ a
no_less a b e = grind (arith, ints)

no_less_test : (a b : ℤ) → b ≤ℤ a → int_lt a b ≡ false
no_less_test a b h = grind (arith, ints)

same_lead : (a : ℤ) (b : ℕ) (c : ℤ) (d : ℕ) → outranks a b c d ≡ true → int_lt c a ≡ false → a ≡ c
same_lead a b c d e level = grind (arith, ints, nat_tests)

more_liberties : (a : ℤ) (b : ℕ) (c : ℤ) (d : ℕ) → outranks a b c d ≡ true → int_lt c a ≡ false → d < b
more_liberties a b c d e level = grind (arith, ints, nat_tests)

outranks_when : (a : ℤ) (b : ℕ) (c : ℤ) (d : ℕ) → outranks a b c d ≡ true → (c <ℤ a) ⊎ ((a ≡ c) × (d < b))
outranks_when a b c d e = elim (cases_Bool (int_lt c a)) [
  | inl over ↦ inl (less c a over)
  | inr level ↦ inr (same_lead a b c d e level, more_liberties a b c d e level)
]

by_lead : (a : ℤ) (b : ℕ) (c : ℤ) (d : ℕ) → c <ℤ a → outranks a b c d ≡ true
by_lead a b c d h = grind (arith, ints, nat_tests)

by_liberties : (a : ℤ) (b : ℕ) (c : ℤ) (d : ℕ) → a ≡ c → d < b → outranks a b c d ≡ true
by_liberties a b c d e h = grind (arith, ints, nat_tests)

outranks_test : (a : ℤ) (b : ℕ) (c : ℤ) (d : ℕ) → (c <ℤ a) ⊎ ((a ≡ c) × (d < b)) → outranks a b c d ≡ true
outranks_test a b c d (inl over) = by_lead a b c d over
outranks_test a b c d (inr level) = by_liberties a b c d level.0 level.1

module _ (s : Standing) (c : Colour)
    (low : (n : ℕ) (p : Point) → IsOn n p → number_of n p < n * n)
    (back : (n : ℕ) (p : Point) → IsOn n p → point_at n (number_of n p) ≡ p)
    (on : (n k : ℕ) → k < n * n → IsOn n (point_at n k))
    (same : (n k : ℕ) → k < n * n → number_of n (point_at n k) ≡ k) where
  better_test : (p q : Point) → IsBetter s c p q → is_better s c (number_of s.lines p) (number_of s.lines q) ≡ true
  better_test p q =
      outranks_test (lead_after s c (number_of s.lines p)) (liberties_after s c (number_of s.lines p))
      (lead_after s c (number_of s.lines q)) (liberties_after s c (number_of s.lines q))

  better_when : (p q : Point) → is_better s c (number_of s.lines p) (number_of s.lines q) ≡ true → IsBetter s c p q
  better_when p q =
      outranks_when (lead_after s c (number_of s.lines p)) (liberties_after s c (number_of s.lines p))
      (lead_after s c (number_of s.lines q)) (liberties_after s c (number_of s.lines q))

  -- legal plays by their points, and by their numbers
  passes : (p : Point) → IsLegal s c (At p) → may_play s c (number_of s.lines p) ≡ true
  passes p legal = ap (λ (q : Point). is_legal s c (At q)) (back s.lines p legal.0) ∙ legal_passes s c (At p) legal

  legal_at : (k : ℕ) → may_play s c k ≡ true → IsLegal s c (At (point_at s.lines k))
  legal_at k = passes_legal s c (At (point_at s.lines k))

  -- what the rule asks for is the choice
  only : (v : Vertex) → IsChoice s c v → v ≡ chosen s c
  unfolding chosen
  only Pass h =
      pick_pass s.lines (s.lines * s.lines) (may_play s c) (raises_margin s c) (is_better s c)
      (λ q below legal. no_less_test (lead_of s c) (lead_after s c q)
      (subst (λ k. lead_after s c k ≤ℤ lead_of s c) (same s.lines q below)
      (h (point_at s.lines q) (legal_at q legal))))
  only (At p) h =
      ap (λ (q : Point). At q) (sym (back s.lines p h.legal.0))
      ∙ pick_first s.lines (s.lines * s.lines) (may_play s c) (raises_margin s c) (is_better s c) (number_of s.lines p)
      here (passes p h.legal)
      (less_test (lead_of s c) (lead_after s c (number_of s.lines p)) h.raises) best first
    where
      here : number_of s.lines p < s.lines * s.lines
      here = low s.lines p h.legal.0

      best : (q : ℕ) → q < s.lines * s.lines → may_play s c q ≡ true → is_better s c q (number_of s.lines p) ≡ false
      best q below legal =
          false_from_ne_true (is_better s c q (number_of s.lines p))
          (λ over. h.best (point_at s.lines q) (legal_at q legal)
          (better_when (point_at s.lines q) p
          (ap (λ j. is_better s c j (number_of s.lines p)) (same s.lines q below) ∙ over)))

      first : (q : ℕ) → q < number_of s.lines p → may_play s c q ≡ true → is_better s c (number_of s.lines p) q ≡ true
      first q before legal =
          let number = same s.lines q (omega (arith, before, here)) in
          ap (is_better s c (number_of s.lines p)) (sym number)
          ∙ better_test p (point_at s.lines q)
          (h.first (point_at s.lines q) (legal_at q legal)
          (subst (λ k. k < number_of s.lines p) (sym number) before))

  -- there is a best one among the first points, if one of them may be played
  best_to : (i : ℕ) → (best : Option Trial) × IsBestTrial s c i best
  best_to zero = (None, λ p below. absurd (omega arith))
  best_to (suc i) =
      let rest = best_to i in
      let next = tried_next s c i (may_play s c i) rest.0 refl rest.1 in
      let one : i + 1 ≡ suc i = omega arith in
      (better_of rest.0 (tried s c i), subst (λ k. IsBestTrial s c k (better_of rest.0 (tried s c i))) one next)

  chosen_at : (t : Trial) (p : ℕ) → IsBestBelow s c (s.lines * s.lines) p → t ≡ trial_at s c p →
      int_lt (lead_of s c) t.lead ≡ true → IsChosenPlay s c (point_at s.lines p)
  chosen_at t p h is more = record {
    legal = legal_at p h.legal;
    raises = subst (λ k. lead_of s c <ℤ lead_after s c k) (sym number)
        (less (lead_of s c) (lead_after s c p) (ap (λ (u : Trial). int_lt (lead_of s c) u.lead) (sym is) ∙ more));
    best = λ q legal over.
        true≢false (sym (better_test q (point_at s.lines p) over) ∙ ap (is_better s c (number_of s.lines q)) number
        ∙ h.best (number_of s.lines q) (low s.lines q legal.0) (passes q legal));
    first = λ q legal before.
        better_when (point_at s.lines p) q
        (ap (λ k. is_better s c k (number_of s.lines q)) number
        ∙ h.first (number_of s.lines q) (subst (λ k. number_of s.lines q < k) number before) (passes q legal));
  }
    where
      number : number_of s.lines (point_at s.lines p) ≡ p
      number = same s.lines p h.below

  none_raises : (t : Trial) (p q : ℕ) → t ≡ trial_at s c p → int_lt (lead_of s c) t.lead ≡ false →
      is_better s c q p ≡ false → lead_after s c q ≤ℤ lead_of s c
  none_raises t p q is none worse =
      no_less (lead_of s c) (lead_after s c q)
      (false_from_ne_true (raises_margin s c q) (λ more. true≢false (sym (over more) ∙ worse)))
    where
      over : raises_margin s c q ≡ true → is_better s c q p ≡ true
      over more =
          outranks-greater (lead_of s c) (lead_after s c q) (liberties_after s c q) (lead_after s c p)
          (liberties_after s c p) more (ap (λ (u : Trial). int_lt (lead_of s c) u.lead) (sym is) ∙ none)

  rule_at : (best : Option Trial) → IsBestTrial s c (s.lines * s.lines) best → IsChoice s c (chosen s c)
  rule_at None none =
      subst (IsChoice s c) (chosen_none s c None refl none)
      (λ p legal. absurd (true≢false (sym (passes p legal) ∙ none (number_of s.lines p) (low s.lines p legal.0))))
  rule_at (Some t) h = elim (cases_Bool (int_lt (lead_of s c) t.lead)) [
    | inl more ↦
        subst (IsChoice s c) (ap (λ (u : Trial). At u.point) (sym h.2)
        ∙ chosen_play s c (Some t) t (lead_of s c) t.lead refl h refl refl more) (chosen_at t h.0 h.1 h.2 more)
    | inr none ↦
        subst (IsChoice s c) (chosen_pass s c (Some t) t (lead_of s c) t.lead refl h refl refl none)
        (λ q legal. none_raises t h.0 (number_of s.lines q) h.2 none
        (h.1.best (number_of s.lines q) (low s.lines q legal.0) (passes q legal)))
  ]

  pub choice_rule : (v : Vertex) → (v ≡ chosen s c) ↔ IsChoice s c v
  choice_rule v = (
    (λ e. let found = best_to (s.lines * s.lines) in
        subst (IsChoice s c) (sym e) (rule_at found.0 found.1)),
    only v,
  )

pub rule_legal : (s : Standing) (c : Colour) (v : Vertex) → IsChoice s c v → IsLegal s c v
rule_legal s c Pass h = tt
rule_legal s c (At p) h = h.legal
