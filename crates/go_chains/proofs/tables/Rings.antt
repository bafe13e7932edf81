-- Rings cut, joined and walked.
use Rattle.std.proofs.Common.{ℕ, ◌+◌, ◌-◌, ◌<◌, ◌≤◌, ◌≡◌, ◌≢◌, ◌⊎◌, inl, inr, zero, suc, refl, sym, ap, ◌∙◌, arith}
use Rattle.std.proofs.Math.Nat.{add-suc}
use Rattle.std.proofs.lemmas.Bool.{cases_lt, cases_eq}
use Rattle.go_chains.specs.inner.Rings.{steps, IsRing, IsOnRing}

-- first i steps, then j
pub steps-add : (next : ℕ → ℕ) (i j p : ℕ) → steps next (i + j) p ≡ steps next j (steps next i p)
steps-add next i zero p = ap (λ k. steps next k p) (let e : i + 0 ≡ i = omega arith in e)
steps-add next i (suc j) p = ap (λ k. steps next k p) (add-suc i j) ∙ ap next (steps-add next i j p)

-- the same steps by a count that is equal
pub steps_at : (next : ℕ → ℕ) (i j k p : ℕ) → k ≡ i + j → steps next k p ≡ steps next j (steps next i p)
steps_at next i j k p e = ap (λ n. steps next n p) e ∙ steps-add next i j p

-- a ring is one from each of its points
pub IsRing-from : (next : ℕ → ℕ) (n p q : ℕ) → IsRing next n p → IsOnRing next n p q → IsRing next n q
IsRing-from next n p q ring on =
    let i = on.0 in
    let there : steps next i p ≡ q = on.2 in
    record {
      some = ring.some;
      closes = ap (steps next n) (sym there) ∙ sym (steps_at next i n (n + i) p (omega arith))
          ∙ steps_at next n i (n + i) p (omega arith) ∙ ap (steps next i) ring.closes ∙ there;
      apart = λ j k below_j below_k same.
          let back : (l : ℕ) → steps next (n - i) (steps next l q) ≡ steps next l p = λ l.
          ap (λ x. steps next (n - i) (steps next l x)) (sym there)
          ∙ ap (steps next (n - i)) (sym (steps-add next i l p)) ∙ sym (steps-add next (i + l) (n - i) p)
          ∙ steps_at next n l (i + l + (n - i)) p (let b : i < n = on.1 in omega arith)
          ∙ ap (steps next l) ring.closes in
          ring.apart j k below_j below_k (sym (back j) ∙ ap (steps next (n - i)) same ∙ back k);
    }

-- what is on the ring from p is on it from q
pub IsOn-from : (next : ℕ → ℕ) (n p q r : ℕ) → IsRing next n p → IsOnRing next n p q → IsOnRing next n p r →
    IsOnRing next n q r
IsOn-from next n p q r ring on_q on_r =
    let i = on_q.0 in let k = on_r.0 in
    let below : i < n = on_q.1 in let below_k : k < n = on_r.1 in
    elim (cases_lt k i) [
      | inl less ↦ (
        k + (n - i),
        omega arith,
        ap (steps next (k + (n - i))) (sym on_q.2) ∙ sym (steps_at next i (k + (n - i)) (n + k) p (omega arith))
            ∙ steps_at next n k (n + k) p refl ∙ ap (steps next k) ring.closes ∙ on_r.2,
      )
      | inr more ↦ (
        k - i,
        omega arith,
        ap (steps next (k - i)) (sym on_q.2)
            ∙ sym (steps_at next i (k - i) k p (omega arith)) ∙ on_r.2,
      )
    ]

-- two maps that agree on the points passed lead to the same point
pub steps_agree : (next next' : ℕ → ℕ) (p n : ℕ) → ((i : ℕ) → i < n → next' (steps next i p) ≡ next (steps next i p)) →
    (i : ℕ) → i ≤ n → steps next' i p ≡ steps next i p
steps_agree next next' p n agree zero below = refl
steps_agree next next' p n agree (suc i) below =
    ap next' (steps_agree next next' p n agree i (omega arith)) ∙ agree i (omega arith)

-- a ring stays one where no `next` of its points changes
pub IsRing-kept : (next next' : ℕ → ℕ) (n p : ℕ) → IsRing next n p →
    ((q : ℕ) → IsOnRing next n p q → next' q ≡ next q) → IsRing next' n p
IsRing-kept next next' n p ring agree =
    let same = steps_agree next next' p n (λ (i : ℕ) (below : i < n). agree (steps next i p) (i, below, refl)) in
    record {
      some = ring.some;
      closes = same n (omega arith) ∙ ring.closes;
      apart = λ i j below_i below_j e.
          ring.apart i j below_i below_j (sym (same i (omega arith)) ∙ e ∙ same j (omega arith));
    }

pub IsOn-kept : (next next' : ℕ → ℕ) (n p q : ℕ) → ((r : ℕ) → IsOnRing next n p r → next' r ≡ next r) →
    IsOnRing next n p q → IsOnRing next' n p q
IsOn-kept next next' n p q agree on =
    let same = steps_agree next next' p n (λ (i : ℕ) (below : i < n). agree (steps next i p) (i, below, refl)) in
    (on.0, on.1, same on.0 (let b : on.0 < n = on.1 in omega arith) ∙ on.2)

pub IsOn-was : (next next' : ℕ → ℕ) (n p q : ℕ) → ((r : ℕ) → IsOnRing next n p r → next' r ≡ next r) →
    IsOnRing next' n p q → IsOnRing next n p q
IsOn-was next next' n p q agree on =
    let same = steps_agree next next' p n (λ (i : ℕ) (below : i < n). agree (steps next i p) (i, below, refl)) in
    (on.0, on.1, sym (same on.0 (let b : on.0 < n = on.1 in omega arith)) ∙ on.2)

-- two rings with no point in common, and a map that swaps the nexts of one point of each
pub record IsSplice (next next' : ℕ → ℕ) (m a n b : ℕ) : Type 0 where
  pub first : IsRing next m a
  pub second : IsRing next n b
  pub disjoint : (q : ℕ) → IsOnRing next m a q → IsOnRing next n b q → ⊥
  pub at_first : next' a ≡ next b
  pub at_second : next' b ≡ next a
  pub others : (q : ℕ) → IsOnRing next m a q ⊎ IsOnRing next n b q → q ≢ a → q ≢ b → next' q ≡ next q

-- a point of the first ring after its start is neither of the two
pub in_first : (next next' : ℕ → ℕ) (m a n b : ℕ) → IsSplice next next' m a n b → (k : ℕ) → 0 < k → k < m →
    next' (steps next k a) ≡ next (steps next k a)
in_first next next' m a n b s k above below =
    s.others (steps next k a) (inl (k, below, refl))
    (λ e. let z : k ≡ 0 = s.first.apart k 0 below (omega arith) e in omega arith)
    (λ e. s.disjoint b (k, below, e) (0, s.second.some, refl))

pub in_second : (next next' : ℕ → ℕ) (m a n b : ℕ) → IsSplice next next' m a n b → (k : ℕ) → 0 < k → k < n →
    next' (steps next k b) ≡ next (steps next k b)
in_second next next' m a n b s k above below =
    s.others (steps next k b) (inr (k, below, refl))
    (λ e. s.disjoint a (0, s.first.some, refl) (k, below, e))
    (λ e. let z : k ≡ 0 = s.second.apart k 0 below (omega arith) e in omega arith)

-- from a the new ring goes through the second ring first
pub through_second : (next next' : ℕ → ℕ) (m a n b : ℕ) → IsSplice next next' m a n b → (k : ℕ) → suc k ≤ n →
    steps next' (suc k) a ≡ steps next (suc k) b
through_second next next' m a n b s zero below = s.at_first
through_second next next' m a n b s (suc k) below =
    ap next' (through_second next next' m a n b s k (omega arith))
    ∙ in_second next next' m a n b s (suc k) (omega arith) (omega arith)

pub through_first : (next next' : ℕ → ℕ) (m a n b : ℕ) → IsSplice next next' m a n b → (k : ℕ) → suc k ≤ m →
    steps next' (suc k) (steps next' n a) ≡ steps next (suc k) a
through_first next next' m a n b s zero below =
    let some : 0 < n = s.second.some in
    let there : steps next' n a ≡ b =
    ap (λ i. steps next' i a) (let e : n ≡ suc (n - 1) = omega arith in e)
    ∙ through_second next next' m a n b s (n - 1) (omega arith)
    ∙ ap (λ i. steps next i b) (let e : suc (n - 1) ≡ n = omega arith in e) ∙ s.second.closes in
    ap next' there ∙ s.at_second
through_first next next' m a n b s (suc k) below =
    ap next' (through_first next next' m a n b s k (omega arith))
    ∙ in_first next next' m a n b s (suc k) (omega arith) (omega arith)

-- where a number of steps leads to, from a lead of the new ring on
pub from_second : (next next' : ℕ → ℕ) (m a n b : ℕ) → IsSplice next next' m a n b → (i : ℕ) → 0 < i → i ≤ n →
    steps next' i a ≡ steps next i b
from_second next next' m a n b s i above below =
    ap (λ j. steps next' j a) (let e : i ≡ suc (i - 1) = omega arith in e)
    ∙ through_second next next' m a n b s (i - 1) (omega arith)
    ∙ ap (λ j. steps next j b) (let e : suc (i - 1) ≡ i = omega arith in e)

pub from_first : (next next' : ℕ → ℕ) (m a n b : ℕ) → IsSplice next next' m a n b → (i : ℕ) → 0 < i → i ≤ m →
    steps next' (n + i) a ≡ steps next i a
from_first next next' m a n b s i above below =
    steps-add next' n i a
    ∙ ap (λ j. steps next' j (steps next' n a)) (let e : i ≡ suc (i - 1) = omega arith in e)
    ∙ through_first next next' m a n b s (i - 1) (omega arith)
    ∙ ap (λ j. steps next j a) (let e : suc (i - 1) ≡ i = omega arith in e)

-- which point of which ring stands at a place of the new ring
pub data Stands (next next' : ℕ → ℕ) (m a n b i : ℕ) : Type 0 where
  in_the_first : (k : ℕ) → k < m → steps next' i a ≡ steps next k a → (i ≡ 0 → k ≡ 0) → (0 < i → i ≡ n + k) →
      (0 < i → 0 < k) → Stands next next' m a n b i
  in_the_second : (k : ℕ) → k < n → steps next' i a ≡ steps next k b → (0 < k → i ≡ k) → (k ≡ 0 → i ≡ n) →
      Stands next next' m a n b i

pub stands_at : (next next' : ℕ → ℕ) (m a n b : ℕ) → IsSplice next next' m a n b → (i : ℕ) → i < n + m →
    Stands next next' m a n b i
stands_at next next' m a n b s i below =
    let some_first : 0 < m = s.first.some in let some_second : 0 < n = s.second.some in
    elim (cases_eq i 0) [
      | inl zero_is ↦ in_the_first 0 some_first (ap (λ j. steps next' j a) zero_is) (λ _. refl) (λ above. omega arith)
          (λ above. omega arith)
      | inr not_zero ↦ elim (cases_lt i n) [
        | inl before ↦ in_the_second i before (from_second next next' m a n b s i (omega arith) (omega arith))
            (λ _. refl) (λ is. omega arith)
        | inr after ↦ elim (cases_eq i n) [
          | inl at ↦ in_the_second 0 some_second
              (from_second next next' m a n b s i (omega arith) (omega arith) ∙ ap (λ j. steps next j b) at
              ∙ s.second.closes) (λ above. omega arith) (λ _. at)
          | inr past ↦ in_the_first (i - n) (omega arith)
              (ap (λ j. steps next' j a) (let e : i ≡ n + (i - n) = omega arith in e)
              ∙ from_first next next' m a n b s (i - n) (omega arith) (omega arith))
              (λ is. omega arith) (λ _. omega arith) (λ _. omega arith)
        ]
      ]
    ]

-- the new ring has every point of both
pub IsRing-splice : (next next' : ℕ → ℕ) (m a n b : ℕ) → IsSplice next next' m a n b → IsRing next' (n + m) a
IsRing-splice next next' m a n b s = record {
  some = let some_first : 0 < m = s.first.some in omega arith;
  closes = let some_first : 0 < m = s.first.some in from_first next next' m a n b s m (omega arith) (omega arith)
      ∙ s.first.closes;
  apart = λ i j below_i below_j same. elim (stands_at next next' m a n b s i below_i) [
    | in_the_first k below_k is_i first_k more_k some_k ↦ elim (stands_at next next' m a n b s j below_j) [
      | in_the_first l below_l is_j first_l more_l some_l ↦ let e : k ≡ l =
          s.first.apart k l below_k below_l (sym is_i ∙ same ∙ is_j) in grind arith
      | in_the_second l below_l is_j at_l at_zero ↦
          absurd (s.disjoint (steps next k a) (k, below_k, refl) (l, below_l, sym is_j ∙ sym same ∙ is_i))
    ]
    | in_the_second k below_k is_i at_k at_zero ↦ elim (stands_at next next' m a n b s j below_j) [
      | in_the_first l below_l is_j first_l more_l some_l ↦
          absurd (s.disjoint (steps next l a) (l, below_l, refl) (k, below_k, sym is_i ∙ same ∙ is_j))
      | in_the_second l below_l is_j at_l at_zero' ↦ let e : k ≡ l =
          s.second.apart k l below_k below_l (sym is_i ∙ same ∙ is_j) in grind arith
    ]
  ];
}

pub IsOn-splice : (next next' : ℕ → ℕ) (m a n b q : ℕ) → IsSplice next next' m a n b → IsOnRing next' (n + m) a q →
    IsOnRing next m a q ⊎ IsOnRing next n b q
IsOn-splice next next' m a n b q s on = elim (stands_at next next' m a n b s on.0 on.1) [
  | in_the_first k below_k is first_k more_k some_k ↦ inl (k, below_k, sym is ∙ on.2)
  | in_the_second k below_k is at_k at_zero ↦ inr (k, below_k, sym is ∙ on.2)
]

pub IsOn-splice_first : (next next' : ℕ → ℕ) (m a n b q : ℕ) → IsSplice next next' m a n b → IsOnRing next m a q →
    IsOnRing next' (n + m) a q
IsOn-splice_first next next' m a n b q s on =
    let k = on.0 in let below : k < m = on.1 in
    elim (cases_eq k 0) [
      | inl none ↦ (0, omega arith, ap (λ i. steps next i a) (sym none) ∙ on.2)
      | inr more ↦ (n + k, omega arith, from_first next next' m a n b s k (omega arith) (omega arith) ∙ on.2)
    ]

pub IsOn-splice_second : (next next' : ℕ → ℕ) (m a n b q : ℕ) → IsSplice next next' m a n b → IsOnRing next n b q →
    IsOnRing next' (n + m) a q
IsOn-splice_second next next' m a n b q s on =
    let k = on.0 in let below : k < n = on.1 in let some_first : 0 < m = s.first.some in
    elim (cases_eq k 0) [
      | inl none ↦ (
        n,
        omega arith,
        from_second next next' m a n b s n (omega arith) (omega arith) ∙ s.second.closes
            ∙ ap (λ i. steps next i b) (sym none) ∙ on.2,
      )
      | inr more ↦ (k, omega arith, from_second next next' m a n b s k (omega arith) (omega arith) ∙ on.2)
    ]
