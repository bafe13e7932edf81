-- Clearing a colour point by point, and what a move takes.
use Rattle.std.proofs.Common.{arith, ◌≡◌, ◌≢◌, ◌<◌, ◌≤◌, ◌+◌, ◌*◌, ◌∙◌, ◌&&◌, Bool, true, false, not, cond, inl, inr, ℕ, zero, suc, List, [], ◌∷◌, ◌++◌, Option, Some, None, All, count_by, get_or, length, refl, sym, ap, subst, length-set}
use Rattle.std.specs.Prelude.{if◌then◌else◌}
use Rattle.std.specs.List.{range_with_len}
use Rattle.std.proofs.Math.ListN.{set}
use Rattle.std.proofs.lemmas.Bool.{cases_Bool, cases_lt, and_parts}
use Rattle.std.proofs.lemmas.List.{get_or-set_other, get_or-set_same}
use Rattle.std.proofs.lemmas.List.FromFn.{fill_by_all, get_or-map-range_with_len, length-range_with_len}
use Rattle.std.proofs.lemmas.List.Sums.{count_by-le-length, sum_by_push}
use Rattle.go_board.specs.declared.colour.Colour.{Colour}
use Rattle.go_board.specs.declared.colour.Colour.TheVariants.{Black, White}
use Rattle.go_board.specs.Colours.{Colouring, colour_at, other}
use Rattle.go_board.specs.Reaching.{after_clearing, cleared, has_colour, is_same, is_taken, moved, points, reaches, vanished}
use Rattle.go_board.specs.inner.Flood.{AreReaching}
use Rattle.go_board.proofs.Counting.{count_le, on_points}
use Rattle.go_board.proofs.Tests.{equal_from_same}

-- tests that hold together are equal
pub same_test : (a b : Bool) → (a ≡ true → b ≡ true) → (b ≡ true → a ≡ true) → a ≡ b
same_test true b there back = sym (there refl)
same_test false true there back = back refl
same_test false false there back = refl

pub count_agree : {X : Type 0} (a b : X → Bool) (xs : List X) → All (λ x. a x ≡ b x) xs → count_by a xs ≡ count_by b xs
count_agree a b xs all =
    let le = count_le a b xs (λ k d low e. sym (all k d low) ∙ e) in
    let ge = count_le b a xs (λ k d low e. all k d low ∙ e) in
    omega arith

range_push : (a n : ℕ) → range_with_len a (suc n) ≡ range_with_len a n ++ (a + n) ∷ []
range_push a zero = ap (λ k. k ∷ []) (let e : a ≡ a + 0 = omega arith in e)
range_push a (suc n) = ap (λ xs. a ∷ xs)
    (range_push (a + 1) n ∙ ap (λ k. range_with_len (a + 1) n ++ k ∷ [])
    (let e : a + 1 + n ≡ a + suc n = omega arith in e))

-- counting up to one more number
pub count_more : (p : ℕ → Bool) (i : ℕ) →
    count_by p (range_with_len 0 (i + 1)) ≡ count_by p (range_with_len 0 i) + cond (p i) 1 0
count_more p i =
    ap (λ k. count_by p (range_with_len 0 k)) (let e : i + 1 ≡ suc i = omega arith in e)
    ∙ ap (count_by p) (range_push 0 i)
    ∙ sum_by_push (λ x. let n : ℕ = cond (p x) 1 0 in n) (range_with_len 0 i) (0 + i)
    ∙ ap (λ k. count_by p (range_with_len 0 i) + cond (p k) 1 0) (let e : 0 + i ≡ i = omega arith in e)

-- the first i points were looked at
pub record IsClearing (n : ℕ) (g : Colouring) (c : Colour) (i : ℕ) (now : Colouring) (taken : ℕ) : Type 0 where
  pub whole : length now ≡ n * n
  pub done : (k : ℕ) → k < i → colour_at now k ≡ after_clearing n g c k
  pub rest : (k : ℕ) → i ≤ k → colour_at now k ≡ colour_at g k
  pub counted : taken ≡ count_by (is_taken n g c) (range_with_len 0 i)

-- a point is taken where it has the colour and isn't marked as reaching empty
pub taken_is : (n : ℕ) (g : Colouring) (c : Colour) (i : ℕ) (alive : List Bool) → i < n * n →
    AreReaching n g (Some c) None alive
    → (has_colour g i (Some c) && not (get_or alive i false)) ≡ is_taken n g c i
taken_is n g c i alive low marks = elim (cases_Bool (has_colour g i (Some c))) [
  | inl has ↦
      let same : get_or alive i false ≡ reaches n g i None =
      same_test (get_or alive i false) (reaches n g i None) (λ m. ((marks i).0 m).2)
      (λ r. (marks i).1 (low, equal_from_same (colour_at g i) (Some c) has, r)) in
      ap (λ b. has_colour g i (Some c) && not b) same
  | inr has_not ↦ rw has_not refl
]

pub clearing_more : (n : ℕ) (g : Colouring) (c : Colour) (i : ℕ) (now now' : Colouring) (taken taken' : ℕ)
    (alive : List Bool) (dies : Bool)
    → i < n * n → AreReaching n g (Some c) None alive → IsClearing n g c i now taken
    → dies ≡ (has_colour now i (Some c) && not (get_or alive i false)) → now' ≡ (if dies then set now i None else now) →
    taken' ≡ taken + cond dies 1 0
    → IsClearing n g c (i + 1) now' taken'
clearing_more n g c i now now' taken taken' alive dies low marks before test colours count =
    let here : colour_at now i ≡ colour_at g i = before.rest i (omega arith) in
    let is : dies ≡ is_taken n g c i = test
    ∙ ap (λ (o : Option Colour). is_same o (Some c) && not (get_or alive i false)) here
    ∙ taken_is n g c i alive low marks in
    let others : (k : ℕ) → k ≢ i → colour_at now' k ≡ colour_at now k = λ k other. elim (cases_Bool dies) [
      | inl d ↦ ap (λ (h : Colouring). colour_at h k) (colours ∙ ap (λ (b : Bool). if b then set now i None else now) d)
          ∙ get_or-set_other now i k None None other
      | inr d ↦ ap (λ (h : Colouring). colour_at h k) (colours ∙ ap (λ (b : Bool). if b then set now i None else now) d)
    ] in
    let at : colour_at now' i ≡ after_clearing n g c i = elim (cases_Bool dies) [
      | inl d ↦ ap (λ (h : Colouring). colour_at h i) (colours ∙ ap (λ (b : Bool). if b then set now i None else now) d)
          ∙ get_or-set_same now i None None (omega (arith, before.whole))
          ∙ ap (λ (b : Bool). if b then None else colour_at g i) (sym (sym is ∙ d))
      | inr d ↦ ap (λ (h : Colouring). colour_at h i) (colours ∙ ap (λ (b : Bool). if b then set now i None else now) d)
          ∙ here ∙ ap (λ (b : Bool). if b then None else colour_at g i) (sym (sym is ∙ d))
    ] in
    record {
      whole = elim (cases_Bool dies) [
        | inl d ↦ ap (λ (h : Colouring). length h) (colours ∙ ap (λ (b : Bool). if b then set now i None else now) d)
            ∙ length-set now i None ∙ before.whole
        | inr d ↦ ap (λ (h : Colouring). length h) (colours ∙ ap (λ (b : Bool). if b then set now i None else now) d)
            ∙ before.whole
      ];
      done = λ k below. elim (cases_lt k i) [
        | inl less ↦ others k (λ same. let bad : k ≡ i = same in absurd (omega arith)) ∙ before.done k less
        | inr last ↦ let same : k ≡ i = omega arith in
            subst (λ (j : ℕ). colour_at now' j ≡ after_clearing n g c j) (sym same) at
      ];
      rest = λ k above. others k (λ same. let bad : k ≡ i = same in absurd (omega arith)) ∙ before.rest k (omega arith);
      counted = count ∙ ap (λ m. m + cond dies 1 0) before.counted
          ∙ ap (λ b. let m : ℕ = count_by (is_taken n g c) (range_with_len 0 i) + cond b 1 0 in m) is
          ∙ sym (count_more (is_taken n g c) i);
    }

-- when all were looked at, the colour is cleared
pub clearing_done : (n : ℕ) (g : Colouring) (c : Colour) (i : ℕ) (now : Colouring) (taken : ℕ) → n * n ≤ i →
    IsClearing n g c i now taken → now ≡ cleared n g c
unfolding cleared
clearing_done n g c i now taken all clearing =
    fill_by_all (after_clearing n g c) now (n * n) None clearing.whole (λ k low. clearing.done k (omega arith))

pub colour_at-cleared : (n : ℕ) (g : Colouring) (c : Colour) (k : ℕ) → k < n * n →
    colour_at (cleared n g c) k ≡ after_clearing n g c k
unfolding cleared
colour_at-cleared n g c k low =
    get_or-map-range_with_len (after_clearing n g c) 0 (n * n) k k None low (let e : 0 + k ≡ k = omega arith in e)

-- what vanishes when a colour is cleared is what was taken
vanishes : (n : ℕ) (g : Colouring) (c : Colour) (k : ℕ) → k < n * n →
    (has_colour g k (Some c) && not (has_colour (cleared n g c) k (Some c))) ≡ is_taken n g c k
vanishes n g c k low =
    let after = colour_at-cleared n g c k low in
    ap (λ (o : Option Colour). has_colour g k (Some c) && not (is_same o (Some c))) after
    ∙ elim (cases_Bool (is_taken n g c k)) [
      | inl t ↦ ap (λ (b : Bool). has_colour g k (Some c) && not (is_same (if b then None else colour_at g k) (Some c)))
          t ∙ ap (λ b. b && true) (and_parts (has_colour g k (Some c)) _ t).0 ∙ sym t
      | inr t ↦ ap (λ (b : Bool). has_colour g k (Some c) && not (is_same (if b then None else colour_at g k) (Some c)))
          t ∙ and_not (has_colour g k (Some c)) ∙ sym t
    ]
  where
    and_not : (b : Bool) → (b && not b) ≡ false
    and_not true = refl
    and_not false = refl

pub vanished-cleared : (n : ℕ) (g : Colouring) (c : Colour) →
    vanished n g (cleared n g c) c ≡ count_by (is_taken n g c) (points n)
unfolding vanished
vanished-cleared n g c = count_agree (λ k. has_colour g k (Some c) && not (has_colour (cleared n g c) k (Some c)))
    (is_taken n g c) (points n) (on_points n
    (λ k. (has_colour g k (Some c) && not (has_colour (cleared n g c) k (Some c))) ≡ is_taken n g c k)
    (vanishes n g c))

pub clearing_counts : (n : ℕ) (g : Colouring) (c : Colour) (i : ℕ) (now : Colouring) (taken : ℕ) → n * n ≤ i →
    i ≤ n * n → IsClearing n g c i now taken → taken ≡ vanished n g now c
clearing_counts n g c i now taken all most clearing =
    let same : i ≡ n * n = omega arith in
    clearing.counted ∙ ap (λ k. count_by (is_taken n g c) (range_with_len 0 k)) same ∙ sym (vanished-cleared n g c)
    ∙ ap (λ (h : Colouring). vanished n g h c) (sym (clearing_done n g c i now taken all clearing))

-- clearing one colour leaves the stones of another
other_stays : (n : ℕ) (g : Colouring) (c d : Colour) → is_same (Some c) (Some d) ≡ false → (k : ℕ) → k < n * n →
    has_colour (cleared n g c) k (Some d) ≡ has_colour g k (Some d)
other_stays n g c d differs k low =
    ap (λ (o : Option Colour). is_same o (Some d)) (colour_at-cleared n g c k low)
    ∙ elim (cases_Bool (is_taken n g c k)) [
      | inl t ↦
          let is : colour_at g k ≡ Some c =
          equal_from_same (colour_at g k) (Some c) (and_parts (has_colour g k (Some c)) _ t).0 in
          ap (λ (b : Bool). is_same (if b then None else colour_at g k) (Some d)) t
          ∙ sym (ap (λ (o : Option Colour). is_same o (Some d)) is ∙ differs)
      | inr t ↦ ap (λ (b : Bool). is_same (if b then None else colour_at g k) (Some d)) t
    ]

differs-other : (c : Colour) → is_same (Some c) (Some (other c)) ≡ false
differs-other Black = refl
differs-other White = refl

other-differs : (c : Colour) → is_same (Some (other c)) (Some c) ≡ false
other-differs Black = refl
other-differs White = refl

-- what the opponent loses isn't touched when the own colour is cleared
vanished_first : (n : ℕ) (g : Colouring) (c : Colour) →
    vanished n g (cleared n (cleared n g (other c)) c) (other c) ≡ vanished n g (cleared n g (other c)) (other c)
unfolding vanished
vanished_first n g c =
    let h = cleared n g (other c) in
    count_agree (λ k. has_colour g k (Some (other c)) && not (has_colour (cleared n h c) k (Some (other c))))
    (λ k. has_colour g k (Some (other c)) && not (has_colour h k (Some (other c)))) (points n)
    (on_points n (λ k. (has_colour g k (Some (other c)) && not (has_colour (cleared n h c) k (Some (other c)))) ≡
    (has_colour g k (Some (other c)) && not (has_colour h k (Some (other c)))))
    (λ k low. ap (λ b. has_colour g k (Some (other c)) && not b) (other_stays n h c (other c) (differs-other c) k low)))

-- the own stones are there still when the opponent's colour was cleared
vanished_second : (n : ℕ) (g : Colouring) (c : Colour) →
    vanished n g (cleared n (cleared n g (other c)) c) c ≡ vanished n (cleared n g (other c))
    (cleared n (cleared n g (other c)) c) c
unfolding vanished
vanished_second n g c =
    let h = cleared n g (other c) in
    let m = cleared n h c in
    count_agree (λ k. has_colour g k (Some c) && not (has_colour m k (Some c)))
    (λ k. has_colour h k (Some c) && not (has_colour m k (Some c))) (points n)
    (on_points n (λ k. (has_colour g k (Some c) && not (has_colour m k (Some c))) ≡
    (has_colour h k (Some c) && not (has_colour m k (Some c))))
    (λ k low. ap (λ b. b && not (has_colour m k (Some c))) (sym (other_stays n g (other c) c (other-differs c) k low))))

-- a stone is placed, the one colour cleared and then the other
pub place_moves : (n l₁ l₂ k : ℕ) (c d : Colour) (g g₁ g₂ g₃ : Colouring)
    → l₁ ≡ n → l₂ ≡ l₁ → g₁ ≡ set g k (Some c) → d ≡ other c → g₂ ≡ cleared l₁ g₁ d → g₃ ≡ cleared l₂ g₂ c →
    g₃ ≡ moved n g c k
unfolding moved
place_moves n l₁ l₂ k c d g g₁ g₂ g₃ lines₁ lines₂ placed opponent first second = cc

pub place_takes_theirs : (n l₁ l₂ k taken : ℕ) (c d : Colour) (g g₁ g₂ g₃ : Colouring)
    → l₁ ≡ n → l₂ ≡ l₁ → g₁ ≡ set g k (Some c) → d ≡ other c → g₂ ≡ cleared l₁ g₁ d → g₃ ≡ cleared l₂ g₂ c →
    taken ≡ vanished l₁ g₁ g₂ d
    → taken ≡ vanished n (set g k (Some c)) g₃ (other c)
place_takes_theirs n l₁ l₂ k count c d g g₁ g₂ g₃ lines₁ lines₂ placed opponent first second taken =
    let law = vanished_first n (set g k (Some c)) c in cc

pub place_takes_own : (n l₁ l₂ k taken : ℕ) (c d : Colour) (g g₁ g₂ g₃ : Colouring)
    → l₁ ≡ n → l₂ ≡ l₁ → g₁ ≡ set g k (Some c) → d ≡ other c → g₂ ≡ cleared l₁ g₁ d → g₃ ≡ cleared l₂ g₂ c →
    taken ≡ vanished l₂ g₂ g₃ c
    → taken ≡ vanished n (set g k (Some c)) g₃ c
place_takes_own n l₁ l₂ k count c d g g₁ g₂ g₃ lines₁ lines₂ placed opponent first second taken =
    let law = vanished_second n (set g k (Some c)) c in cc

pub vanished-le : (n : ℕ) (before after : Colouring) (c : Colour) → vanished n before after c ≤ n * n
unfolding vanished
vanished-le n before after c =
    let most = count_by-le-length (λ k. has_colour before k (Some c) && not (has_colour after k (Some c))) (points n) in
    rw (length-range_with_len 0 (n * n)) at most
