-- The points that a colour holds alone, counted row by row.
use Rattle.std.specs.Int.{bit_at}
use Rattle.std.specs.List.{range_with_len}
use Rattle.std.proofs.Common.{arith, ◌≡◌, ◌<◌, ◌≤◌, ◌+◌, ◌-◌, ◌*◌, ◌^◌, ◌∙◌, ◌&&◌, ◌||◌, inl, inr, Bool, false, not, cond, ℕ, zero, suc, List, Option, Some, None, bit_and, count_by, count_ones, length, map, min, nat_eq, refl, sym, ap, ap₂, subst, slice_index, w32}
use Rattle.std.proofs.lemmas.Bool.{cases_Bool, eq-eqb, eqb-true}
use Rattle.std.proofs.lemmas.List.FromFn.{get_or-map-range_with_len, length-map-range_with_len}
use Rattle.std.proofs.lemmas.Nat.{and_le_l}
use Rattle.std.proofs.lemmas.Nat.Bits.{bit_at-lt, bit_at_and, bit_at_not, same_from_bits_below}
use Rattle.std.proofs.lemmas.Simd.{bit_mask_l, mask_l-lt, ones-mask_l}
use lib.Lanes.{mask_l}
use Rattle.go_board.specs.declared.colour.Colour.{Colour}
use Rattle.go_board.specs.declared.colour.Colour.TheVariants.{Black, White}
use Rattle.go_board.specs.Colours.{Colouring, colour_at, other}
use Rattle.go_board.specs.Reaching.{area, is_area, is_same, reaches}
use Rattle.go_board.specs.Rows.{AreHeld, is_held}
use Rattle.go_board.specs.inner.Areas.{is_alone}
use Rattle.go_board.proofs.Clearing.{count_more, same_test}

-- 1 for a test that passes
abbrev one_if : Bool → ℕ
one_if b = cond b 1 0

-- a bit of what the one word has and the other has not
alone_bit : (a b : ℕ) → a < 2 → b < 2 → min a (1 - b) ≡ cond (nat_eq a 1 && not (nat_eq b 1)) 1 0
alone_bit zero zero a_low b_low = refl
alone_bit zero (suc zero) a_low b_low = refl
alone_bit (suc zero) zero a_low b_low = refl
alone_bit (suc zero) (suc zero) a_low b_low = refl
alone_bit (suc (suc a)) b a_low b_low = absurd (omega arith)
alone_bit a (suc (suc b)) a_low b_low = absurd (omega arith)

-- the set bits of one word that the other has not are counted as columns
pub alone_counted : (own theirs : ℕ) → own < 2 ^ 32 → theirs < 2 ^ 32 →
    count_ones (bit_and own (2 ^ 32 - 1 - theirs)) ≡ count_by (is_alone own theirs) (range_with_len 0 32)
alone_counted own theirs own_fits theirs_fits =
    let test = is_alone own theirs in
    let marks = map test (range_with_len 0 32) in
    let size : length marks ≡ 32 = length-map-range_with_len test 0 32 in
    let low : mask_l marks < 2 ^ 32 = subst (λ (k : ℕ). mask_l marks < 2 ^ k) size (mask_l-lt marks) in
    let few = and_le_l own (2 ^ 32 - 1 - theirs) in
    let same : bit_and own (2 ^ 32 - 1 - theirs) ≡ mask_l marks =
    same_from_bits_below 32 (bit_and own (2 ^ 32 - 1 - theirs)) (mask_l marks) (omega arith) low
    (λ i i_low. bit_at_and own (2 ^ 32 - 1 - theirs) i
    ∙ ap (min (bit_at own i)) (bit_at_not w32 theirs i theirs_fits i_low)
    ∙ alone_bit (bit_at own i) (bit_at theirs i) (bit_at-lt own i) (bit_at-lt theirs i)
    ∙ ap (λ b. let n : ℕ = cond b 1 0 in n) (sym (get_or-map-range_with_len test 0 32 i i false i_low (omega arith)))
    ∙ sym (bit_mask_l marks i)) in
    ap count_ones same ∙ ones-mask_l test (range_with_len 0 32)

-- what fails past the first n is counted among them
pub count_first : (test : ℕ → Bool) (n k : ℕ) → ((i : ℕ) → n ≤ i → test i ≡ false) →
    count_by test (range_with_len 0 (n + k)) ≡ count_by test (range_with_len 0 n)
count_first test n zero fails = ap (λ m. count_by test (range_with_len 0 m)) (let e : n + zero ≡ n = omega arith in e)
count_first test n (suc k) fails =
    let rest = count_first test n k fails in
    let last = count_more test (n + k) in
    let none : one_if (test (n + k)) ≡ 0 = ap one_if (fails (n + k) (omega arith)) in
    ap (λ m. count_by test (range_with_len 0 m)) (let e : n + suc k ≡ n + k + 1 = omega arith in e)
    ∙ (let sum : count_by test (range_with_len 0 (n + k + 1)) ≡ count_by test (range_with_len 0 n) =
    omega (arith, rest, last, none) in sum)

-- what is counted from a place on is what another test counts from 0
pub count_on : (test here : ℕ → Bool) (from k : ℕ) → ((i : ℕ) → i < k → test (from + i) ≡ here i)
    → count_by test (range_with_len 0 (from + k)) ≡ count_by test (range_with_len 0 from) + count_by here
    (range_with_len 0 k)
count_on test here from zero agree =
    ap (λ m. count_by test (range_with_len 0 m)) (let e : from + zero ≡ from = omega arith in e)
    ∙ (let z : count_by test (range_with_len 0 from) ≡ count_by test (range_with_len 0 from) + 0 = omega arith in z)
count_on test here from (suc k) agree =
    let rest = count_on test here from k (λ i low. agree i (omega arith)) in
    let last = count_more test (from + k) in
    let last_here = count_more here k in
    let same : one_if (test (from + k)) ≡ one_if (here k) = ap one_if (agree k (omega arith)) in
    let one : count_by here (range_with_len 0 (suc k)) ≡ count_by here (range_with_len 0 (k + 1)) =
    ap (λ m. count_by here (range_with_len 0 m)) (let e : suc k ≡ k + 1 = omega arith in e) in
    ap (λ m. count_by test (range_with_len 0 m)) (let e : from + suc k ≡ from + k + 1 = omega arith in e)
    ∙ (let sum : count_by test (range_with_len 0 (from + k + 1)) ≡ count_by test (range_with_len 0 from) + count_by here
    (range_with_len 0 (suc k)) = omega (arith, rest, last, last_here, same, one) in sum)

-- held by the one and not by the other, and counted for the one
pub alone_is : (c : Colour) (o : Option Colour) (own theirs : Bool)
    → ((is_same o (Some c) || (is_same o None && own)) && not
    (is_same o (Some (other c)) || (is_same o None && theirs)))
    ≡ (is_same o (Some c) || ((is_same o None && own) && not theirs))
alone_is Black None own theirs = refl
alone_is White None own theirs = refl
alone_is Black (Some Black) own theirs = refl
alone_is Black (Some White) own theirs = refl
alone_is White (Some Black) own theirs = refl
alone_is White (Some White) own theirs = refl

module _ (n : ℕ) (g : Colouring) (c : Colour) (own theirs : List ℕ) (own_held : AreHeld n g c own)
    (theirs_held : AreHeld n g (other c) theirs) where
  -- a column of a row counts where its point does
  column_is : (row col : ℕ) → row < n → col < n →
      is_area n g c (row * n + col) ≡ is_alone (slice_index own row) (slice_index theirs row) col
  column_is row col row_low col_low =
      let mine : nat_eq (bit_at (slice_index own row) col) 1 ≡ is_held n g c (row * n + col) =
      same_test (nat_eq (bit_at (slice_index own row) col) 1) (is_held n g c (row * n + col))
      (λ e. ((own_held row col).0 (eqb-true (bit_at (slice_index own row) col) 1 e)).2)
      (λ h. eq-eqb (bit_at (slice_index own row) col) 1 ((own_held row col).1 (row_low, col_low, h))) in
      let others : nat_eq (bit_at (slice_index theirs row) col) 1 ≡ is_held n g (other c) (row * n + col) =
      same_test (nat_eq (bit_at (slice_index theirs row) col) 1) (is_held n g (other c) (row * n + col))
      (λ e. ((theirs_held row col).0 (eqb-true (bit_at (slice_index theirs row) col) 1 e)).2)
      (λ h. eq-eqb (bit_at (slice_index theirs row) col) 1 ((theirs_held row col).1 (row_low, col_low, h))) in
      sym (alone_is c (colour_at g (row * n + col)) (reaches n g (row * n + col) (Some c))
      (reaches n g (row * n + col) (Some (other c)))) ∙ ap₂ (λ a b. a && not b) (sym mine) (sym others)

  -- past the last column there is none
  past_none : (row col : ℕ) → n ≤ col → is_alone (slice_index own row) (slice_index theirs row) col ≡ false
  past_none row col past = elim (cases_Bool (nat_eq (bit_at (slice_index own row) col) 1)) [
    | inl set ↦ absurd (let low = ((own_held row col).0 (eqb-true (bit_at (slice_index own row) col) 1 set)).1 in
        omega arith)
    | inr clear ↦ ap (λ b. b && not (nat_eq (bit_at (slice_index theirs row) col) 1)) clear
  ]

  -- one row more is counted
  pub row_counted : (row count more : ℕ) → row < n → n ≤ 32 →
      count ≡ count_by (is_area n g c) (range_with_len 0 (row * n))
      → more ≡ count_by (is_alone (slice_index own row) (slice_index theirs row)) (range_with_len 0 32)
      → count + more ≡ count_by (is_area n g c) (range_with_len 0 ((row + 1) * n))
  row_counted row count more row_low narrow so_far here =
      let test = is_alone (slice_index own row) (slice_index theirs row) in
      let all : count_by test (range_with_len 0 32) ≡ count_by test (range_with_len 0 n) =
      ap (λ m. count_by test (range_with_len 0 m)) (let e : 32 ≡ n + (32 - n) = omega arith in e)
      ∙ count_first test n (32 - n) (past_none row) in
      let on = count_on (is_area n g c) test (row * n) n (λ i low. column_is row i row_low low) in
      ap₂ (λ a b. let m : ℕ = a + b in m) so_far (here ∙ all) ∙ sym on
      ∙ ap (λ m. count_by (is_area n g c) (range_with_len 0 m))
      (let e : row * n + n ≡ (row + 1) * n = grind arith in e)

pub rows_counted : (n : ℕ) (g : Colouring) (c : Colour) (row count : ℕ) → row ≡ n →
    count ≡ count_by (is_area n g c) (range_with_len 0 (row * n)) → count ≡ area n g c
unfolding area
rows_counted n g c row count all is = is ∙ ap (λ m. count_by (is_area n g c) (range_with_len 0 (m * n))) all
