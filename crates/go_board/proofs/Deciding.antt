-- The tests on paths decide whether there is a path.
use Rattle.std.proofs.Common.{arith, ◌≡◌, ◌<◌, ◌≤◌, ◌*◌, ◌∙◌, ◌↔◌, ◌&&◌, ◌==◌, ◌⊎◌, Bool, true, inl, inr, ℕ, zero, suc, List, [], ◌∷◌, Option, None, count_by, refl, ap, subst}
use Rattle.std.proofs.lemmas.Bool.{or_cases, eqb-true, eq-eqb, and_parts, and_from, or_right, or_left}
use Rattle.std.proofs.lemmas.List.FromFn.{length-range_with_len}
use Rattle.go_board.specs.declared.colour.Colour.{Colour}
use Rattle.go_board.specs.Colours.{Colouring, colour_at}
use Rattle.go_board.specs.Points.{is_adjacent}
use Rattle.go_board.specs.Paths.{IsAdjacent, Joined, Leads, Reaches}
use Rattle.go_board.specs.Reaching.{connects, connects_within, has_colour, is_liberty_of, joined, points, reaches, some_neighbour}
use Rattle.go_board.specs.inner.Flood.{IsStep}
use Rattle.go_board.proofs.Tests.{at_point, equal_from_same, same_from_equal, some_point}
use Rattle.go_board.proofs.Counting.{all_counted, at_points, grows_or_same, on_points}

module _ (n : ℕ) (g : Colouring) (test : ℕ → Bool) where
  -- a point passes within k steps
  abbrev within : ℕ → ℕ → Bool
  within k p = connects_within k n g p test

  within_here : (k p : ℕ) → test p ≡ true → within k p ≡ true
  unfolding connects_within
  within_here zero p e = e
  within_here (suc k) p e = or_left (test p) _ e

  within_step : (k p q : ℕ) → IsStep n g p q → within k q ≡ true → within (suc k) p ≡ true
  unfolding connects_within
  within_step k p q step e =
      or_right (test p) _ (at_point n
      (λ r. is_adjacent n p r && (has_colour g r (colour_at g p) && connects_within k n g r test)) q step.0.1
      (and_from (is_adjacent n p q) _ step.0.2
      (and_from (has_colour g q (colour_at g p)) _ (same_from_equal (colour_at g q) (colour_at g p) step.1) e)))

  within_cases : (k p : ℕ) → p < n * n → within (suc k) p ≡ true → (test p ≡ true)
      ⊎ ((q : ℕ) × IsStep n g p q × (within k q ≡ true))
  unfolding connects_within
  within_cases k p low e = elim (or_cases (test p) _ e) [
    | inl here ↦ inl here
    | inr further ↦
        let found = some_point n (λ r. is_adjacent n p r &&
        (has_colour g r (colour_at g p) && connects_within k n g r test)) further in
        let parts = and_parts (is_adjacent n p found.0) _ found.2 in
        let rest = and_parts (has_colour g found.0 (colour_at g p)) _ parts.1 in
        inr (found.0, ((low, found.1, parts.0), equal_from_same (colour_at g found.0) (colour_at g p) rest.0), rest.1)
  ]

  within_more : (k p : ℕ) → p < n * n → within k p ≡ true → within (suc k) p ≡ true
  unfolding connects_within
  within_more zero p low e = within_here 1 p e
  within_more (suc k) p low e = elim (within_cases k p low e) [
    | inl here ↦ within_here (suc (suc k)) p here
    | inr further ↦ within_step (suc k) p further.0 further.1 (within_more k further.0 further.1.0.1 further.2)
  ]

  -- one step more finds nothing new
  IsSettled : ℕ → Type 0
  IsSettled k = (p : ℕ) → p < n * n → within (suc k) p ≡ true → within k p ≡ true

  settled_more : (k : ℕ) → IsSettled k → IsSettled (suc k)
  unfolding IsSettled
  settled_more k settled p low e = elim (within_cases (suc k) p low e) [
    | inl here ↦ within_here (suc k) p here
    | inr further ↦ within_step k p further.0 further.1 (settled further.0 further.1.0.1 further.2)
  ]

  -- how many points pass within k steps
  found_count : ℕ → ℕ
  found_count k = count_by (within k) (points n)

  settled_or_found : (k : ℕ) → IsSettled k ⊎ (k ≤ found_count k)
  unfolding IsSettled found_count
  settled_or_found zero = inr (omega arith)
  settled_or_found (suc k) = elim (settled_or_found k) [
    | inl settled ↦ inl (settled_more k settled)
    | inr enough ↦ elim (grows_or_same (within k) (within (suc k)) (points n)
        (on_points n (λ p. within k p ≡ true → within (suc k) p ≡ true) (within_more k))) [
          | inl same ↦ inl (settled_more k (at_points n (λ p. within (suc k) p ≡ true → within k p ≡ true) same))
          | inr more ↦ inr (omega arith)
        ]
  ]

  -- no path needs more steps than there are points
  settled_in_the_end : IsSettled (n * n)
  unfolding IsSettled found_count
  settled_in_the_end = elim (settled_or_found (n * n)) [
    | inl settled ↦ settled
    | inr enough ↦ λ p low e. at_points n (λ q. within (n * n) q ≡ true)
        (all_counted (within (n * n)) (points n) (rw (length-range_with_len 0 (n * n)) enough)) p low
  ]

  -- a path to a point that passes is found
  found_by : (p : ℕ) (path : List ℕ) (q : ℕ) → p < n * n → Leads n g p path q → test q ≡ true → within (n * n) p ≡ true
  unfolding IsSettled
  found_by p [] q low here e = within_here (n * n) p (ap test here ∙ e)
  found_by p (r ∷ path) q low h e =
      settled_in_the_end p low (within_step (n * n) p r (h.0, h.1) (found_by r path q h.0.1 h.2 e))

  -- what is found is found by a path
  path_found : (k p : ℕ) → p < n * n → within k p ≡ true → (q : ℕ) × Joined n g p q × (test q ≡ true)
  unfolding connects_within
  path_found zero p low e = (p, ([], refl), e)
  path_found (suc k) p low e = elim (within_cases k p low e) [
    | inl here ↦ (p, ([], refl), here)
    | inr further ↦
        let rest = path_found k further.0 further.1.0.1 further.2 in
        (rest.0, (further.0 ∷ rest.1.0, (further.1.0, further.1.1, rest.1.1)), rest.2)
  ]

  -- the test decides whether a path leads to a point that passes
  pub connects_is : (p : ℕ) → p < n * n → (connects n g p test ≡ true) ↔ ((q : ℕ) × Joined n g p q × (test q ≡ true))
  connects_is p low = (path_found (n * n) p low, λ h. found_by p h.1.0 h.0 low h.1.1 h.2)

-- a path stays on the board
pub path_on : (n : ℕ) (g : Colouring) (p : ℕ) (path : List ℕ) (q : ℕ) → p < n * n → Leads n g p path q → q < n * n
path_on n g p [] q low here = subst (λ (k : ℕ). k < n * n) here low
path_on n g p (r ∷ path) q low h = path_on n g r path q h.0.1 h.2

-- some adjacent point passes, as a test and as a fact
pub neighbour_is : (n : ℕ) (test : ℕ → Bool) (p : ℕ) → p < n * n → (some_neighbour n p test ≡ true)
    ↔ ((q : ℕ) × IsAdjacent n p q × (test q ≡ true))
neighbour_is n test p low = (
  λ e. let found = some_point n (λ q. is_adjacent n p q && test q) e in
      let parts = and_parts (is_adjacent n p found.0) (test found.0) found.2 in
      (found.0, (low, found.1, parts.0), parts.1),
  λ h. at_point n (λ q. is_adjacent n p q && test q) h.0 h.1.1 (and_from (is_adjacent n p h.0) (test h.0) h.1.2 h.2),
)

-- a point reaches a colour exactly where a path does
pub reaches_is : (n : ℕ) (g : Colouring) (p : ℕ) (c : Option Colour) → p < n * n → (reaches n g p c ≡ true)
    ↔ Reaches n g p c
reaches_is n g p c low =
    let law = connects_is n g (λ q. some_neighbour n q (λ r. has_colour g r c)) p low in (
      λ e. let found = law.0 e in
          let beside = (neighbour_is n (λ r. has_colour g r c) found.0
          (path_on n g p found.1.0 found.0 low found.1.1)).0 found.2 in
          (found.0, beside.0, found.1, beside.1, equal_from_same (colour_at g beside.0) c beside.2),
      λ h. law.1 (
        h.0,
        h.2,
        (neighbour_is n (λ r. has_colour g r c) h.0 (path_on n g p h.2.0 h.0 low h.2.1)).1
            (h.1, h.3, same_from_equal (colour_at g h.1) c h.4),
      ),
    )

-- two points are joined exactly where a path joins them
pub joined_is : (n : ℕ) (g : Colouring) (p q : ℕ) → p < n * n → (joined n g p q ≡ true) ↔ Joined n g p q
joined_is n g p q low =
    let law = connects_is n g (λ r. r == q) p low in (
      λ e. let found = law.0 e in subst (λ (r : ℕ). Joined n g p r) (eqb-true found.0 q found.2) found.1,
      λ h. law.1 (q, h, eq-eqb q q refl),
    )

-- a point is a liberty exactly where it is empty and adjacent to a stone that a path joins
pub liberty_is : (n : ℕ) (g : Colouring) (p q : ℕ) → p < n * n → (is_liberty_of n g p q ≡ true)
    ↔ ((colour_at g q ≡ None) × ((r : ℕ) × Joined n g p r × (is_adjacent n r q ≡ true)))
liberty_is n g p q low =
    let law = connects_is n g (λ r. is_adjacent n r q) p low in (
      λ e. let parts = and_parts (has_colour g q None) _ e in
          (equal_from_same (colour_at g q) None parts.0, law.0 parts.1),
      λ h. and_from (has_colour g q None) _ (same_from_equal (colour_at g q) None h.0) (law.1 h.1),
    )
