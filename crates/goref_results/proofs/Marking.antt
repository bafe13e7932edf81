-- How marks over the numbers from 0 grow by the next number.
use Rattle.std.proofs.Common.{◌≡◌, ◌∙◌, ◌<◌, ◌≤◌, ◌*◌, ℕ, zero, suc, Bool, false, nat_lt, ◌&&◌, ◌+◌, List, ◌∷◌, refl, sym, ap, ap₂, arith, map, replicate, slice_set}
use Rattle.std.specs.List.{range_with_len}
use Rattle.std.specs.Prelude.{slice_index_or}
use Rattle.std.proofs.Math.Nat.{mul-le-mul}
use Rattle.std.proofs.lemmas.Bool.{le-ltb, lt-ltb}
use Rattle.std.proofs.lemmas.List.FromFn.{get_or-map-range_with_len}
use Rattle.go_board.specs.declared.size.TheConstants.{MAX_LINES, MAX_POINTS}
use Rattle.go_board.specs.lemmas.PointSets.{alike}
use Rattle.go_game.specs.Choices.{may_play}
use Rattle.goref_results.specs.Plays.{MarksAreLegal, marked_plays, numbers_text}

module _ (test : ℕ → Bool) where
  -- the test on numbers below k
  abbrev pub passes_below : ℕ → ℕ → Bool
  passes_below k p = nat_lt p k && test p

  cons : {x y : Bool} {xs ys : List Bool} → x ≡ y → xs ≡ ys → x ∷ xs ≡ y ∷ ys
  cons e f = ap₂ (λ x xs. x ∷ xs) e f

  pub none_below : (a len : ℕ) → map (passes_below 0) (range_with_len a len) ≡ replicate len false
  none_below a zero = refl
  none_below a (suc len) = cons (ap (λ b. b && test a) (le-ltb a 0 (omega arith))) (none_below (a + 1) len)

  beyond : (k a len : ℕ) → k < a →
      map (passes_below k) (range_with_len a len) ≡ map (passes_below (k + 1)) (range_with_len a len)
  beyond k a zero h = refl
  beyond k a (suc len) h =
      cons (ap (λ b. b && test a) (le-ltb a k (omega arith) ∙ sym (le-ltb a (k + 1) (omega arith))))
      (beyond k (a + 1) len (omega arith))

  -- one more number is marked as the test says
  mark_from : (a len j k : ℕ) (b : Bool) → j < len → a + j ≡ k → b ≡ test k →
      slice_set (map (passes_below k) (range_with_len a len)) j b ≡ map (passes_below (k + 1)) (range_with_len a len)
  mark_from a zero j k b h e is = absurd (omega arith)
  mark_from a (suc len) zero k b h e is =
      let here : k ≡ a = omega arith in
      cons (is ∙ ap test here ∙ ap (λ c. c && test a) (sym (lt-ltb a (k + 1) (omega arith))))
      (beyond k (a + 1) len (omega arith))
  mark_from a (suc len) (suc j) k b h e is =
      cons (ap (λ c. c && test a) (lt-ltb a k (omega arith) ∙ sym (lt-ltb a (k + 1) (omega arith))))
      (mark_from (a + 1) len j k b (omega arith) (omega arith) is)

  pub mark_more : (len k : ℕ) (b : Bool) → k < len → b ≡ test k →
      slice_set (map (passes_below k) (range_with_len 0 len)) k b ≡ map (passes_below (k + 1)) (range_with_len 0 len)
  mark_more len k b h is = mark_from 0 len k k b h (omega arith) is

-- a mark says what the test says of the number
marked_is : (test : ℕ → Bool) (k len p : ℕ) → p < k → p < len →
    slice_index_or (map (passes_below test k) (range_with_len 0 len)) p false ≡ test p
marked_is test k len p below here =
    get_or-map-range_with_len (passes_below test k) 0 len p p false here (omega arith)
    ∙ ap (λ b. b && test p) (lt-ltb p k below)

square : (n : ℕ) → n ≤ MAX_LINES → n * n ≤ MAX_POINTS
square n small = mul-le-mul small small

pub marks_are_legal : MarksAreLegal
marks_are_legal s c small =
    let n = s.lines in
    ap (numbers_text n) (alike (λ p. slice_index_or (marked_plays s c) p false) (may_play s c) 0 (n * n)
    (λ p low high. marked_is (may_play s c) (n * n) MAX_POINTS p (omega arith) (omega (arith, square n small))))
