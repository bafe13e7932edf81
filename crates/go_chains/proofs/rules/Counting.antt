-- How many points pass a test: as many as a list has that names each of them once.
use Rattle.std.specs.Prelude.{AllPairs, Contains, filter, count_by}
use Rattle.std.specs.List.{range_with_len}
use Rattle.std.proofs.Common.{ℕ, ◌+◌, ◌*◌, ◌<◌, ◌≤◌, ◌≡◌, ◌≢◌, refl, sym, ap, ◌∙◌, subst, arith, inl, inr, Bool, true, List, [], ◌∷◌, length, get_or}
use Rattle.std.proofs.lemmas.Bool.{cases_Bool, cases_eq}
use Rattle.std.proofs.lemmas.List.Elements.{All-contains, All-contains_itself, All-filter, Contains-append_right, filter_passes}
use Rattle.std.proofs.lemmas.List.FromFn.{get_or-range_with_len, length-range_with_len}
use Rattle.std.proofs.lemmas.List.Kept.{AllPairs-filter}
use Rattle.std.proofs.lemmas.List.Sums.{length-filter}
use Rattle.std.proofs.lemmas.Map.Made.{Contains-tail}
use Rattle.go_board.specs.Reaching.{points}
use Rattle.go_chains.proofs.tables.Tidy.{length-le_members}

-- what is in a list and passes is in what the test leaves of it
pub Contains-filter : (test : ℕ → Bool) (xs : List ℕ) (q : ℕ) → Contains xs q → test q ≡ true →
    Contains (filter test xs) q
Contains-filter test [] q has passes = absurd (let none : has.0 < 0 = has.1 in omega arith)
Contains-filter test (x ∷ xs) q has passes = elim (cases_eq x q) [
  | inl same ↦
      let e : test x ≡ true = ap test same ∙ passes in
      let step : filter test (x ∷ xs) ≡ x ∷ filter test xs = rw e refl in
      subst (λ (l : List ℕ). Contains l q) (sym step) (0, omega arith, same)
  | inr other ↦
      let rest = Contains-filter test xs q (Contains-tail x xs q other has) passes in
      elim (cases_Bool (test x)) [
        | inl t ↦ (let step : filter test (x ∷ xs) ≡ x ∷ filter test xs = rw t refl in
            subst (λ (l : List ℕ). Contains l q) (sym step) (Contains-append_right (x ∷ []) (filter test xs) q rest))
        | inr f ↦ (let step : filter test (x ∷ xs) ≡ filter test xs = rw f refl in
            subst (λ (l : List ℕ). Contains l q) (sym step) rest)
      ]
]

-- no number is twice in a range
pub range-apart : (a n : ℕ) → AllPairs (λ x y. x ≢ y) (range_with_len a n)
range-apart a n i j d less below same =
    let size = length-range_with_len a n in
    let first : get_or (range_with_len a n) i d ≡ a + i = get_or-range_with_len a n i d (omega arith) in
    let second : get_or (range_with_len a n) j d ≡ a + j = get_or-range_with_len a n j d (omega arith) in
    omega arith

-- the points are the numbers below their count
pub point_below : (n q : ℕ) → Contains (points n) q → q < n * n
point_below n q has =
    let size = length-range_with_len 0 (n * n) in
    let below : has.0 < length (points n) = has.1 in
    let at : 0 + has.0 ≡ q = sym (get_or-range_with_len 0 (n * n) has.0 q (omega arith)) ∙ has.2 in
    omega arith

pub below_point : (n q : ℕ) → q < n * n → Contains (points n) q
below_point n q below =
    let size = length-range_with_len 0 (n * n) in
    (q, omega arith, get_or-range_with_len 0 (n * n) q q below ∙ (let z : 0 + q ≡ q = omega arith in z))

-- the points that pass a test, each once
module _ (n : ℕ) (test : ℕ → Bool) where
  pub passing-apart : AllPairs (λ x y. x ≢ y) (filter test (points n))
  passing-apart = AllPairs-filter (λ x y. x ≢ y) test (points n) (range-apart 0 (n * n))

  pub passing-has : (q : ℕ) → q < n * n → test q ≡ true → Contains (filter test (points n)) q
  passing-has q below passes = Contains-filter test (points n) q (below_point n q below) passes

  pub passing-is : (q : ℕ) → Contains (filter test (points n)) q → (q < n * n) × (test q ≡ true)
  passing-is q has = (
    point_below n q (All-contains (Contains (points n)) (filter test (points n)) q
        (All-filter test (Contains (points n)) (points n) (All-contains_itself (points n))) has),
    All-contains (λ x. test x ≡ true) (filter test (points n)) q (filter_passes test (points n)) has,
  )

-- as many points pass as a list has that names each of them once, and no other point
pub counted : (n : ℕ) (test : ℕ → Bool) (xs : List ℕ) → AllPairs (λ x y. x ≢ y) xs →
    ((q : ℕ) → Contains xs q → (q < n * n) × (test q ≡ true))
    → ((q : ℕ) → q < n * n → test q ≡ true → Contains xs q) → length (filter test (points n)) ≡ length xs
counted n test xs apart pass has =
    let more : length (filter test (points n)) ≤ length xs =
    length-le_members (filter test (points n)) xs (passing-apart n test)
    (λ q inside. let is = passing-is n test q inside in has q is.0 is.1) in
    let fewer : length xs ≤ length (filter test (points n)) =
    length-le_members xs (filter test (points n)) apart
    (λ q inside. let is = pass q inside in passing-has n test q is.0 is.1) in
    omega arith

pub counted_by : (n : ℕ) (test : ℕ → Bool) (xs : List ℕ) → AllPairs (λ x y. x ≢ y) xs →
    ((q : ℕ) → Contains xs q → (q < n * n) × (test q ≡ true))
    → ((q : ℕ) → q < n * n → test q ≡ true → Contains xs q) → count_by test (points n) ≡ length xs
counted_by n test xs apart pass has = sym (length-filter test (points n)) ∙ counted n test xs apart pass has
