-- Counting the elements that pass a test.
use Rattle.std.proofs.Common.{arith, ◌≡◌, ◌<◌, ◌≤◌, ◌+◌, ◌*◌, ◌∙◌, ◌⊎◌, Bool, true, false, true≢false, cond, inl, inr, ℕ, List, [], ◌∷◌, All, count_by, get_or, length, sym, ap, subst}
use Rattle.std.proofs.lemmas.Bool.{cases_Bool}
use Rattle.std.proofs.lemmas.List.Sums.{count_by-le-length, sum_by-cons}
use Rattle.std.proofs.lemmas.List.FromFn.{get_or-range_with_len, length-range_with_len}
use Rattle.std.proofs.lemmas.List.Elements.{All-cons, All-head, All-tail, All-nil}
use Rattle.go_board.specs.Reaching.{points}

pub count_cons : {X : Type 0} (p : X → Bool) (x : X) (xs : List X) →
    count_by p (x ∷ xs) ≡ cond (p x) 1 0 + count_by p xs
count_cons p x xs = sum_by-cons (λ y. let n : ℕ = cond (p y) 1 0 in n) x xs

pub count_cons_pass : {X : Type 0} (p : X → Bool) (x : X) (xs : List X) → p x ≡ true →
    count_by p (x ∷ xs) ≡ 1 + count_by p xs
count_cons_pass p x xs e = count_cons p x xs ∙ ap (λ b. let n : ℕ = cond b 1 0 + count_by p xs in n) e

pub count_cons_fail : {X : Type 0} (p : X → Bool) (x : X) (xs : List X) → p x ≡ false →
    count_by p (x ∷ xs) ≡ count_by p xs
count_cons_fail p x xs e = count_cons p x xs ∙ ap (λ b. let n : ℕ = cond b 1 0 + count_by p xs in n) e
    ∙ (let z : 0 + count_by p xs ≡ count_by p xs = omega arith in z)

-- of two tests on a list of which the second passes what the first does, the second counts no fewer
pub count_le : {X : Type 0} (a b : X → Bool) (xs : List X) → All (λ x. a x ≡ true → b x ≡ true) xs →
    count_by a xs ≤ count_by b xs
count_le a b [] all = omega arith
count_le {X} a b (x ∷ xs) all =
    let P : X → Type 0 = λ y. a y ≡ true → b y ≡ true in
    let le : count_by a xs ≤ count_by b xs = count_le a b xs (All-tail P x xs all) in
    elim (cases_Bool (a x)) [
      | inl holds ↦ let ca = count_cons_pass a x xs holds in let cb =
          count_cons_pass b x xs (All-head P x xs all holds) in omega arith
      | inr fails ↦ let ca = count_cons_fail a x xs fails in elim (cases_Bool (b x)) [
        | inl holds ↦ let cb = count_cons_pass b x xs holds in omega arith
        | inr also ↦ let cb = count_cons_fail b x xs also in omega arith
      ]
    ]

-- and either they agree or the second counts more
pub grows_or_same : {X : Type 0} (a b : X → Bool) (xs : List X) → All (λ x. a x ≡ true → b x ≡ true) xs
    → All (λ x. b x ≡ true → a x ≡ true) xs ⊎ (count_by a xs < count_by b xs)
grows_or_same {X} a b [] all = inl (All-nil (λ x. b x ≡ true → a x ≡ true))
grows_or_same {X} a b (x ∷ xs) all =
    let P : X → Type 0 = λ y. a y ≡ true → b y ≡ true in
    let Q : X → Type 0 = λ y. b y ≡ true → a y ≡ true in
    let le : count_by a xs ≤ count_by b xs = count_le a b xs (All-tail P x xs all) in
    elim (cases_Bool (a x)) [
      | inl holds ↦ let ca = count_cons_pass a x xs holds in let cb =
          count_cons_pass b x xs (All-head P x xs all holds) in
          elim (grows_or_same a b xs (All-tail P x xs all)) [
            | inl same ↦ inl (All-cons Q x xs (λ e. holds) same)
            | inr more ↦ inr (omega arith)
          ]
      | inr fails ↦ let ca = count_cons_fail a x xs fails in elim (cases_Bool (b x)) [
        | inl holds ↦ let cb = count_cons_pass b x xs holds in inr (omega arith)
        | inr also ↦ let cb = count_cons_fail b x xs also in
            elim (grows_or_same a b xs (All-tail P x xs all)) [
              | inl same ↦ inl (All-cons Q x xs (λ e. absurd (true≢false (sym e ∙ also))) same)
              | inr more ↦ inr (omega arith)
            ]
      ]
    ]

-- where as many pass as there are, all do
pub all_counted : {X : Type 0} (p : X → Bool) (xs : List X) → length xs ≤ count_by p xs → All (λ x. p x ≡ true) xs
all_counted {X} p [] enough = All-nil (λ x. p x ≡ true)
all_counted {X} p (x ∷ xs) enough =
    let P : X → Type 0 = λ y. p y ≡ true in
    let most = count_by-le-length p xs in
    elim (cases_Bool (p x)) [
      | inl holds ↦ let c = count_cons_pass p x xs holds in All-cons P x xs holds (all_counted p xs (omega arith))
      | inr fails ↦ let c = count_cons_fail p x xs fails in absurd (omega arith)
    ]

-- what holds of each number of a point holds of the list of them, and the other way round
pub on_points : (n : ℕ) (P : ℕ → Type 0) → ((p : ℕ) → p < n * n → P p) → All P (points n)
on_points n P each k d low =
    let within : k < n * n = rw (length-range_with_len 0 (n * n)) at low in
    let is = get_or-range_with_len 0 (n * n) k d within in
    subst P (sym is) (each (0 + k) (omega arith))

pub at_points : (n : ℕ) (P : ℕ → Type 0) → All P (points n) → (p : ℕ) → p < n * n → P p
at_points n P all p low =
    let is : get_or (points n) p p ≡ p = get_or-range_with_len 0 (n * n) p p low
    ∙ (let z : 0 + p ≡ p = omega arith in z) in
    subst P is (all p p (rw (length-range_with_len 0 (n * n)) low))
