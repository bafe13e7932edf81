-- What tidy tables say of chains and their sizes.
use Rattle.std.proofs.Common.{ℕ, ◌<◌, ◌≤◌, ◌≡◌, ◌≢◌, inl, inr, zero, suc, refl, sym, ap, ◌∙◌, arith, List, length, slice_index_or}
use Rattle.std.specs.Prelude.{AllPairs, Contains}
use Rattle.std.proofs.lemmas.Bool.{cases_lt, cases_eq}
use Rattle.std.proofs.lemmas.List.{get_or_default}
use Rattle.go_chains.specs.inner.Rings.{steps}
use Rattle.go_chains.specs.inner.Tables.{Tables, IsStone, IsTidy}

-- v in the place of n
take_place : (n v x : ℕ) → (y : ℕ) × (x ≡ n → y ≡ v) × (x ≢ n → y ≡ x)
take_place n v x = elim (cases_eq x n)
    [ inl at ↦ (v, λ e. refl, λ ne. absurd (ne at)) | inr other ↦ (x, λ e. absurd (other e), λ ne. refl) ]

abbrev placed : ℕ → ℕ → (ℕ → ℕ) → ℕ → ℕ
placed n k f i = (take_place n (f k) (f i)).0

-- of distinct numbers below n there are at most n
pub at_most : (n k : ℕ) (f : ℕ → ℕ) → ((i : ℕ) → i < k → f i < n) → ((i j : ℕ) → i < k → j < k → f i ≡ f j → i ≡ j) →
    k ≤ n
at_most n zero f below apart = omega arith
at_most zero (suc k) f below apart = absurd (let h : f 0 < 0 = below 0 (omega arith) in omega arith)
at_most (suc n) (suc k) f below apart =
    let rest : k ≤ n = at_most n k (placed n k f) g_below g_apart in omega arith
  where
    at : (i : ℕ) → f i ≡ n → placed n k f i ≡ f k
    at i = (take_place n (f k) (f i)).1

    other : (i : ℕ) → f i ≢ n → placed n k f i ≡ f i
    other i = (take_place n (f k) (f i)).2

    g_below : (i : ℕ) → i < k → placed n k f i < n
    g_below i less = elim (cases_eq (f i) n) [
      | inl is ↦
          let h : f k < suc n = below k (omega arith) in
          let ne : f k ≢ n = λ last. (let e : i ≡ k = apart i k (omega arith) (omega arith) (is ∙ sym last) in
          omega arith) in
          let e : placed n k f i ≡ f k = at i is in omega arith
      | inr not ↦ let h : f i < suc n = below i (omega arith) in let e : placed n k f i ≡ f i = other i not in
          omega arith
    ]

    g_apart : (i j : ℕ) → i < k → j < k → placed n k f i ≡ placed n k f j → i ≡ j
    g_apart i j less_i less_j same = elim (cases_eq (f i) n) [
      | inl is_i ↦ elim (cases_eq (f j) n) [
        | inl is_j ↦ apart i j (omega arith) (omega arith) (is_i ∙ sym is_j)
        | inr not_j ↦ absurd (let e : k ≡ j =
            apart k j (omega arith) (omega arith) (sym (at i is_i) ∙ same ∙ other j not_j) in omega arith)
      ]
      | inr not_i ↦ elim (cases_eq (f j) n) [
        | inl is_j ↦ absurd (let e : i ≡ k =
            apart i k (omega arith) (omega arith) (sym (other i not_i) ∙ same ∙ at j is_j) in omega arith)
        | inr not_j ↦ apart i j (omega arith) (omega arith) (sym (other i not_i) ∙ same ∙ other j not_j)
      ]
    ]

-- a chain has at most as many stones as the board has points
pub size-le : (n : ℕ) (adj : ℕ → ℕ → Type 0) (t : Tables) (p : ℕ) → IsTidy n adj t → IsStone n t p →
    t.size (t.label p) ≤ n
size-le n adj t p tidy stone =
    at_most n (t.size (t.label p)) (λ i. steps t.next i p)
    (λ i below. (tidy.on_ring p (steps t.next i p) stone (i, below, refl)).0.0) (tidy.ring p stone).apart

-- where an element of xs stands in ys
place_in : (xs ys : List ℕ) → ((q : ℕ) → Contains xs q → Contains ys q) → (i : ℕ) → (k : ℕ)
    × (i < length xs → (k < length ys) × (slice_index_or ys k 0 ≡ slice_index_or xs i 0))
place_in xs ys has i = elim (cases_lt i (length xs)) [
  | inl below ↦
      let x = slice_index_or xs i 0 in
      let w = has x (i, below, get_or_default xs i x 0 below) in
      (w.0, λ _. (w.1, get_or_default ys w.0 0 x w.1 ∙ w.2))
  | inr past ↦ (0, λ below. absurd (omega arith))
]

-- a list with no element twice is at most as long as one that has each of its elements
pub length-le_members : (xs ys : List ℕ) → AllPairs (λ x y. x ≢ y) xs → ((q : ℕ) → Contains xs q → Contains ys q) →
    length xs ≤ length ys
length-le_members xs ys apart has =
    at_most (length ys) (length xs) (λ i. (place_in xs ys has i).0) (λ i below. ((place_in xs ys has i).1 below).0)
    (λ i j below_i below_j same. distinct i j below_i below_j
    (sym ((place_in xs ys has i).1 below_i).1 ∙ ap (λ k. slice_index_or ys k 0) same
    ∙ ((place_in xs ys has j).1 below_j).1))
  where
    distinct : (i j : ℕ) → i < length xs → j < length xs → slice_index_or xs i 0 ≡ slice_index_or xs j 0 → i ≡ j
    distinct i j below_i below_j same = elim (cases_lt i j) [
      | inl less ↦ absurd (apart i j 0 less below_j same)
      | inr more ↦ elim (cases_lt j i)
          [ inl less ↦ absurd (apart j i 0 less below_i (sym same)) | inr equal ↦ omega arith ]
    ]
