-- The points of a set in point order, from a number on.
use Rattle.std.specs.Int.{bit_at, trailing_zeros}
use Rattle.std.specs.Prelude.{◌↔◌, drop, filter}
use Rattle.std.proofs.Common.{ℕ, zero, suc, ◌+◌, ◌-◌, ◌*◌, ◌/◌, ◌%◌, ◌^◌, ◌<◌, ◌≤◌, ◌≡◌, ◌∙◌, ◌∷◌, [], refl, sym, ap, subst, arith, inl, inr, Bool, true, false, cond, List, map, nat_eq, slice_index, w64}
use Rattle.std.proofs.lemmas.Bool.{cases_lt, eq-eqb, eqb-true, false_from_ne_true}
use Rattle.std.proofs.lemmas.Nat.Bits.{bit_at-trailing_zeros}
use Rattle.std.specs.List.{range_with_len}
use Rattle.go_board.specs.Points.{point_at}
use Rattle.go_board.specs.Reaching.{points}
use Rattle.go_board.specs.PointSets.{bit_of, has_point, points_from}

module _ (test : ℕ → Bool) where
  -- the numbers from k to below count that pass
  abbrev pub passing : ℕ → ℕ → List ℕ
  passing count k = filter test (range_with_len k (count - k))

  step : (k m : ℕ) (b : Bool) → test k ≡ b →
      filter test (range_with_len k (suc m)) ≡ cond b (k ∷ filter test (range_with_len (k + 1) m))
      (filter test (range_with_len (k + 1) m))
  step k m b e = ap (λ c. cond c (k ∷ filter test (range_with_len (k + 1) m)) (filter test (range_with_len (k + 1) m)))
      e

  one_more : (count k : ℕ) (b : Bool) → k < count → test k ≡ b →
      passing count k ≡ cond b (k ∷ passing count (k + 1)) (passing count (k + 1))
  one_more count k b low e =
      let len : count - k ≡ suc (count - (k + 1)) = omega arith in
      ap (λ m. filter test (range_with_len k m)) len ∙ step k (count - (k + 1)) b e

  pub passing-over : (count k : ℕ) → k < count → test k ≡ false → passing count (k + 1) ≡ passing count k
  passing-over count k low e = sym (one_more count k false low e)

  pub passing-first : (count k : ℕ) → k < count → test k ≡ true → passing count k ≡ k ∷ passing count (k + 1)
  passing-first count k low e = one_more count k true low e

  -- numbers that don't pass are passed over
  pub passing-past : (count k d : ℕ) → k + d ≤ count → ((q : ℕ) → k ≤ q → q < k + d → test q ≡ false) →
      passing count (k + d) ≡ passing count k
  passing-past count k zero low out = let e : k + zero ≡ k = omega arith in ap (passing count) e
  passing-past count k (suc d) low out =
      let e : k + suc d ≡ k + d + 1 = omega arith in
      ap (passing count) e ∙ passing-over count (k + d) (omega arith) (out (k + d) (omega arith) (omega arith))
      ∙ passing-past count k d (omega arith) (λ q from to. out q from (omega arith))

  pub passing-end : (count k : ℕ) → count ≤ k → passing count k ≡ []
  passing-end count k past = let none : count - k ≡ 0 = omega arith in ap (λ m. filter test (range_with_len k m)) none

module _ (n : ℕ) (words : List ℕ) where
  abbrev all : ℕ
  all = n * n

  pub left-over : (k : ℕ) → k < all → has_point words k ≡ false → points_from n words (k + 1) ≡ points_from n words k
  unfolding points_from
  left-over k low e = ap (map (point_at n)) (passing-over (has_point words) all k low e)

  pub left-first : (k : ℕ) → k < all → has_point words k ≡ true →
      points_from n words k ≡ point_at n k ∷ points_from n words (k + 1)
  unfolding points_from
  left-first k low e = ap (map (point_at n)) (passing-first (has_point words) all k low e)

  pub left-end : (k : ℕ) → all ≤ k → points_from n words k ≡ []
  unfolding points_from
  left-end k past = ap (map (point_at n)) (passing-end (has_point words) all k past)

  left-one : (k : ℕ) → has_point words k ≡ false → points_from n words (k + 1) ≡ points_from n words k
  left-one k out = elim (cases_lt k all)
      [ inl below ↦ left-over k below out | inr past ↦ left-end (k + 1) (omega arith) ∙ sym (left-end k past) ]

  -- numbers that aren't in the words are passed over
  pub left-past : (k d : ℕ) → ((q : ℕ) → k ≤ q → q < k + d → has_point words q ≡ false) →
      points_from n words (k + d) ≡ points_from n words k
  left-past k zero out = let e : k + zero ≡ k = omega arith in ap (points_from n words) e
  left-past k (suc d) out =
      let e : k + suc d ≡ k + d + 1 = omega arith in
      ap (points_from n words) e ∙ left-one (k + d) (out (k + d) (omega arith) (omega arith))
      ∙ left-past k d (λ q low high. out q low (omega arith))

-- the bit of a point in one of the words
pub bit_in : (words : List ℕ) (word i : ℕ) → i < 64 → bit_of words (64 * word + i) ≡ bit_at (slice_index words word) i
bit_in words word i low =
    let point : ℕ = 64 * word + i in
    let at : point / 64 ≡ word = omega (arith, low) in
    let bit : point % 64 ≡ i = omega (arith, low) in
    ap (λ w. bit_at (slice_index words w) (point % 64)) at ∙ ap (bit_at (slice_index words word)) bit

-- one of the words without the points before a number, where earlier words have none from there on
module _ (n : ℕ) (words : List ℕ) (first word bits : ℕ) (small : bits < 2 ^ 64)
    (is : (i : ℕ) → i < 64 → (bit_at bits i ≡ 1) ↔ ((first ≤ 64 * word + i) × (bit_of words (64 * word + i) ≡ 1)))
    (none : (q : ℕ) → first ≤ q → q < 64 * word → bit_of words q ≡ 1 → ⊥) where
  abbrev lowest : ℕ
  lowest = 64 * word + trailing_zeros w64 bits

  -- none of its points before a place without a bit is in the words
  none_before : (m : ℕ) → m ≤ 64 → ((i : ℕ) → i < m → bit_at bits i ≡ 0) → (q : ℕ) → first ≤ q → q < 64 * word + m →
      bit_of words q ≡ 1 → ⊥
  none_before m low clear q past before free = elim (cases_lt q (64 * word)) [
    | inl earlier ↦ none q past earlier free
    | inr here ↦
        let i = q - 64 * word in
        let e : q ≡ 64 * word + i = omega arith in
        let set : bit_at bits i ≡ 1 = (is i (omega arith)).1
        (subst (λ (k : ℕ). first ≤ k) e past, subst (λ (k : ℕ). bit_of words k ≡ 1) e free) in
        let zero_bit : bit_at bits i ≡ 0 = clear i (omega arith) in
        absurd (omega (arith, set, zero_bit))
  ]

  module _ (some : 0 < bits) where
    found : (first ≤ lowest) × (bit_of words lowest ≡ 1) × (trailing_zeros w64 bits < 64)
    found =
        let t = bit_at-trailing_zeros w64 bits some small in
        let here = (is (trailing_zeros w64 bits) t.0).0 t.1 in
        (here.0, here.1, t.0)

    skipped : points_from n words lowest ≡ points_from n words first
    skipped =
        let t = bit_at-trailing_zeros w64 bits some small in
        let d = lowest - first in
        let past = found.0 in
        let e : lowest ≡ first + d = omega (arith, past) in
        ap (points_from n words) e
        ∙ left-past n words first d (λ q low high. false_from_ne_true (nat_eq (bit_of words q) 1)
        (λ yes. none_before (trailing_zeros w64 bits) (omega (arith, t.0)) t.2 q low (omega (arith, high, e))
        (eqb-true (bit_of words q) 1 yes)))

    pub lowest-next : lowest < n * n → points_from n words first ≡ point_at n lowest ∷ points_from n words (lowest + 1)
    lowest-next inside = sym skipped ∙ left-first n words lowest inside (eq-eqb (bit_of words lowest) 1 found.1)

    pub lowest-past : n * n ≤ lowest → points_from n words first ≡ []
    lowest-past past = sym skipped ∙ left-end n words lowest past

-- where no word of the board has one, none is to come
pub none-left : (n : ℕ) (words : List ℕ) (first : ℕ) → ((q : ℕ) → first ≤ q → q < n * n → bit_of words q ≡ 1 → ⊥) →
    points_from n words first ≡ []
none-left n words first none = elim (cases_lt first (n * n)) [
  | inl inside ↦
      let d = n * n - first in
      let e : n * n ≤ first + d = omega arith in
      sym (left-past n words first d (λ q low high.
      false_from_ne_true (nat_eq (bit_of words q) 1)
      (λ yes. none q low (omega (arith, high, inside)) (eqb-true (bit_of words q) 1 yes))))
      ∙ left-end n words (first + d) e
  | inr past ↦ left-end n words first past
]

-- tests that agree on the numbers of a range pass the same
pub alike : (f g : ℕ → Bool) (k m : ℕ) → ((q : ℕ) → k ≤ q → q < k + m → f q ≡ g q) →
    filter f (range_with_len k m) ≡ filter g (range_with_len k m)
alike f g k zero same = refl
alike f g k (suc m) same =
    let here : f k ≡ g k = same k (omega arith) (omega arith) in
    let more = alike f g (k + 1) m (λ q low high. same q (omega arith) (omega arith)) in
    ap (λ c. cond c (k ∷ filter f (range_with_len (k + 1) m)) (filter f (range_with_len (k + 1) m))) here
    ∙ ap (λ rest. cond (g k) (k ∷ rest) rest) more

-- at first the points to come are those that pass a test
pub left-all : (n : ℕ) (words : List ℕ) (test : ℕ → Bool) → ((q : ℕ) → q < n * n → has_point words q ≡ test q)
    → points_from n words 0 ≡ map (point_at n) (filter test (points n))
unfolding points_from
left-all n words test same =
    let len : n * n - 0 ≡ n * n = omega arith in
    ap (λ m. map (point_at n) (filter (has_point words) (range_with_len 0 m))) len
    ∙ ap (map (point_at n)) (alike (has_point words) test 0 (n * n) (λ q low high. same q (omega arith)))

-- the first of the points that pass a test
pub first-is : (n : ℕ) (test : ℕ → Bool) (q : ℕ) → q < n * n → test q ≡ true → ((k : ℕ) → k < q → test k ≡ false)
    → map (point_at n) (filter test (points n)) ≡ point_at n q ∷ drop 1 (map (point_at n) (filter test (points n)))
first-is n test q low passes none =
    let len : n * n - 0 ≡ n * n = omega arith in
    let from_0 : 0 + q ≡ q = omega arith in
    let past = passing-past test (n * n) 0 q (omega (arith, low)) (λ k from to. none k (omega (arith, to))) in
    let split : filter test (points n) ≡ q ∷ passing test (n * n) (q + 1) =
    ap (λ m. filter test (range_with_len 0 m)) (sym len) ∙ sym past ∙ ap (passing test (n * n)) from_0
    ∙ passing-first test (n * n) q low passes in
    let mapped = ap (map (point_at n)) split in
    mapped ∙ sym (ap (λ ps. point_at n q ∷ drop 1 ps) mapped)
