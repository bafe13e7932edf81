-- The points of a set, counted word by word.
use Rattle.std.specs.Prelude.{count_by, count_ones, filter, slice_index}
use Rattle.std.specs.Int.{bit_at}
use Rattle.std.specs.List.{range_with_len}
use Rattle.std.proofs.Common.{ℕ, ◌+◌, ◌*◌, ◌-◌, ◌/◌, ◌%◌, ◌^◌, ◌<◌, ◌≤◌, ◌≡◌, refl, sym, ap, ap₂, ◌∙◌, subst, arith, inl, inr, Bool, true, false, cond, List, length, map, nat_eq, bit_and, min, ◌&&◌, zero, suc}
use Rattle.std.proofs.lemmas.Bool.{cases_lt, le-ltb, lt-ltb}
use Rattle.std.proofs.lemmas.List.FromFn.{get_or-map-range_with_len, length-map-range_with_len}
use Rattle.std.proofs.lemmas.List.Sums.{length-filter}
use Rattle.std.proofs.lemmas.Nat.Bits.{bit_at-lt, bit_at_and, same_from_bits_below}
use Rattle.std.proofs.lemmas.Simd.{bit_mask_l, mask_l-lt, ones-mask_l}
use lib.Lanes.{mask_l}
use Rattle.go_board.specs.PointSets.{bit_of, has_point}
use Rattle.go_board.specs.Reaching.{points}
use Rattle.go_board.specs.inner.PointCounts.{count_in_word, is_counted}
use Rattle.go_board.proofs.Counting.{count_le, on_points}
use Rattle.go_board.proofs.RowCounts.{count_first, count_on}

-- a bit as the answer to a test
bit_answer : (b : ℕ) → b < 2 → b ≡ cond (nat_eq b 1) 1 0
bit_answer zero small = refl
bit_answer (suc zero) small = refl
bit_answer (suc (suc b)) small = absurd (omega arith)

module _ (words : List ℕ) (board word read mask : ℕ) (read_is : read ≡ slice_index words word)
    (inside : (i : ℕ) → i < 64 → 64 * word + i < board → bit_at mask i ≡ 1)
    (outside : (i : ℕ) → i < 64 → board ≤ 64 * word + i → bit_at mask i ≡ 0) where
  -- the bit of a point in the word that was read
  bit_here : (i : ℕ) → i < 64 → bit_at read i ≡ bit_of words (64 * word + i)
  bit_here i low =
      let q = 64 * word + i in
      let at : q / 64 ≡ word = omega arith in
      let rest : q % 64 ≡ i = omega arith in
      ap (λ w. bit_at w i) read_is ∙ ap₂ (λ w j. bit_at (slice_index words w) j) (sym at) (sym rest)

  masked_bit : (i : ℕ) → i < 64 → bit_at (bit_and read mask) i ≡ cond (is_counted words board (64 * word + i)) 1 0
  masked_bit i low =
      let q = 64 * word + i in
      let small : bit_at read i < 2 = bit_at-lt read i in
      let both = bit_at_and read mask i in
      elim (cases_lt q board) [
        | inl below ↦
            (let one = inside i low below in
            let kept : min (bit_at read i) (bit_at mask i) ≡ bit_of words q = omega (arith, bit_here i low) in
            let less = lt-ltb q board below in
            both ∙ kept ∙ bit_answer (bit_of words q) (omega (arith, bit_here i low))
            ∙ ap (λ b. let n : ℕ = cond (b && has_point words q) 1 0 in n) (sym less))
        | inr past ↦
            (let none = outside i low past in
            let gone : min (bit_at read i) (bit_at mask i) ≡ 0 = omega arith in
            let more = le-ltb q board past in
            both ∙ gone ∙ ap (λ b. let n : ℕ = cond (b && has_point words q) 1 0 in n) (sym more))
      ]

  pub ones_counted : bit_and read mask < 2 ^ 64 → count_ones (bit_and read mask) ≡ count_in_word words board word
  unfolding count_in_word
  ones_counted fits =
      let test : ℕ → Bool = λ i. is_counted words board (64 * word + i) in
      let marks = map test (range_with_len 0 64) in
      let size : length marks ≡ 64 = length-map-range_with_len test 0 64 in
      let low : mask_l marks < 2 ^ 64 = subst (λ (k : ℕ). mask_l marks < 2 ^ k) size (mask_l-lt marks) in
      let same : bit_and read mask ≡ mask_l marks = same_from_bits_below 64 (bit_and read mask) (mask_l marks) fits low
      (λ i i_low. masked_bit i i_low
      ∙ ap (λ b. let n : ℕ = cond b 1 0 in n) (sym (get_or-map-range_with_len test 0 64 i i false i_low (omega arith)))
      ∙ sym (bit_mask_l marks i)) in
      ap count_ones same ∙ ones-mask_l test (range_with_len 0 64)

-- one word more is counted
pub words_more : (words : List ℕ) (board word count more : ℕ) →
    count ≡ count_by (is_counted words board) (range_with_len 0 (64 * word))
    → more ≡ count_in_word words board word →
    count + more ≡ count_by (is_counted words board) (range_with_len 0 (64 * (word + 1)))
unfolding count_in_word
words_more words board word count more so_far here =
    let test = is_counted words board in
    ap₂ (λ a b. let n : ℕ = a + b in n) so_far here
    ∙ sym (count_on test (λ i. test (64 * word + i)) (64 * word) 64 (λ i low. refl))
    ∙ ap (λ k. count_by test (range_with_len 0 k)) (let e : 64 * word + 64 ≡ 64 * (word + 1) = omega arith in e)

-- two tests that agree on the points leave as many
counted_alike : (n : ℕ) (a b : ℕ → Bool) → ((q : ℕ) → q < n * n → a q ≡ b q) →
    count_by a (points n) ≡ length (filter b (points n))
counted_alike n a b same =
    let There : ℕ → Type 0 = λ q. a q ≡ true → b q ≡ true in
    let Back : ℕ → Type 0 = λ q. b q ≡ true → a q ≡ true in
    let there = count_le a b (points n) (on_points n There (λ q low passes. sym (same q low) ∙ passes)) in
    let back = count_le b a (points n) (on_points n Back (λ q low passes. same q low ∙ passes)) in
    omega (arith, there, back, length-filter b (points n))

-- when all words are counted, so are the points of the board that pass
pub words_counted : (n upto : ℕ) (words : List ℕ) (count : ℕ) (other : ℕ → Bool) → n * n ≤ 64 * upto
    → count ≡ count_by (is_counted words (n * n)) (range_with_len 0 (64 * upto))
    → ((q : ℕ) → q < n * n → has_point words q ≡ other q) → count ≡ length (filter other (points n))
words_counted n upto words count other fits is same =
    let test = is_counted words (n * n) in
    let rest = 64 * upto - n * n in
    is ∙ ap (λ k. count_by test (range_with_len 0 k)) (let e : 64 * upto ≡ n * n + rest = omega arith in e)
    ∙ count_first test (n * n) rest (λ q past. ap (λ b. b && has_point words q) (le-ltb q (n * n) past))
    ∙ counted_alike n test other (λ q low. ap (λ b. b && has_point words q) (lt-ltb q (n * n) low) ∙ same q low)
