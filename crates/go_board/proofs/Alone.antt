-- On a board with an empty point, stones of one colour alone all reach empty.
use Rattle.std.proofs.Common.{arith, ◌≡◌, ◌<◌, ◌+◌, ◌*◌, ◌∙◌, ◌&&◌, ◌==◌, ◌⊎◌, Bool, true, false, not, inl, inr, ℕ, zero, suc, [], ◌∷◌, Some, None, refl, sym, ap, ap₂, subst}
use Rattle.std.proofs.lemmas.Bool.{eq-eqb, and_from, or_right, or_left}
use Rattle.go_board.specs.declared.colour.Colour.{Colour}
use Rattle.go_board.specs.declared.point.Point.{Point}
use Rattle.go_board.specs.Colours.{Colouring, colour_at}
use Rattle.go_board.specs.Points.{IsOn, are_beside, is_next, number_of, point_at}
use Rattle.go_board.specs.Paths.{IsAdjacent, Reaches}
use Rattle.go_board.specs.Reaching.{has_colour, is_dead, reaches}
use Rattle.go_board.proofs.Deciding.{reaches_is}
use Rattle.go_board.proofs.Numbers.{IsOn-point_at, number_of-lt, number_of-point_at, point_at-number_of}
use Rattle.go_board.proofs.Seeding.{adjacent-sym}
use Rattle.go_board.proofs.Tests.{same_from_equal}

-- the number of the point in this column and row
abbrev at : ℕ → ℕ → ℕ → ℕ
at n col row = let p : Point = record { col = col; row = row } in number_of n p

adjacent_points : (n : ℕ) (p q : Point) → IsOn n p → IsOn n q → are_beside p q ≡ true →
    IsAdjacent n (number_of n p) (number_of n q)
adjacent_points n p q p_on q_on e = (
  number_of-lt n p p_on,
  number_of-lt n q q_on,
  ap₂ are_beside (point_at-number_of n p p_on) (point_at-number_of n q q_on) ∙ e,
)

next_column : (n col row : ℕ) → suc col < n → row < n → IsAdjacent n (at n (suc col) row) (at n col row)
next_column n col row col_low row_low =
    let p : Point = record { col = suc col; row = row } in
    let q : Point = record { col = col; row = row } in
    adjacent_points n p q (col_low, row_low) (omega arith, row_low)
    (or_left (row == row && is_next (suc col) col) _
    (and_from (row == row) (is_next (suc col) col) (eq-eqb row row refl)
    (or_right (suc col + 1 == col) (col + 1 == suc col) (eq-eqb (col + 1) (suc col) (omega arith)))))

next_row : (n col row : ℕ) → col < n → suc row < n → IsAdjacent n (at n col (suc row)) (at n col row)
next_row n col row col_low row_low =
    let p : Point = record { col = col; row = suc row } in
    let q : Point = record { col = col; row = row } in
    adjacent_points n p q (col_low, row_low) (col_low, omega arith)
    (or_right (suc row == row && is_next col col) _ (and_from (col == col) (is_next (suc row) row) (eq-eqb col col refl)
    (or_right (suc row + 1 == row) (row + 1 == suc row) (eq-eqb (row + 1) (suc row) (omega arith)))))

-- a board with no stones but those of one colour
module _ (n : ℕ) (g : Colouring) (c : Colour)
    (plain : (k : ℕ) → k < n * n → (colour_at g k ≡ None) ⊎ (colour_at g k ≡ Some c)) where
  -- the point is empty, or reaches empty
  IsFree : ℕ → Type 0
  IsFree k = (colour_at g k ≡ None) ⊎ Reaches n g k None

  -- a stone beside a free point is free
  free_stone : (p q : ℕ) → IsAdjacent n p q → colour_at g p ≡ Some c → IsFree q → IsFree p
  unfolding IsFree
  free_stone p q h stone (inl empty) = inr (p, q, ([], refl), h, empty)
  free_stone p q h stone (inr reach) = elim (plain q h.1) [
    | inl empty ↦ inr (p, q, ([], refl), h, empty)
    | inr same ↦ inr (reach.0, reach.1, (q ∷ reach.2.0, (h, same ∙ sym stone, reach.2.1)), reach.3, reach.4)
  ]

  free_beside : (p q : ℕ) → IsAdjacent n p q → IsFree q → IsFree p
  unfolding IsFree
  free_beside p q h free = elim (plain p h.0) [ inl empty ↦ inl empty | inr stone ↦ free_stone p q h stone free ]

  -- along a line of points, each adjacent to the one before
  module _ (line : ℕ → ℕ) (next : (m : ℕ) → suc m < n → IsAdjacent n (line (suc m)) (line m)) where
    back : (m : ℕ) → m < n → IsFree (line m) → IsFree (line 0)
    back zero low free = free
    back (suc m) low free = back m (omega arith)
        (free_beside (line m) (line (suc m)) (adjacent-sym n (line (suc m)) (line m) (next m low)) free)

    forth : (m : ℕ) → m < n → IsFree (line 0) → IsFree (line m)
    forth zero low free = free
    forth (suc m) low free = free_beside (line (suc m)) (line m) (next m low) (forth m (omega arith) free)

  free_corner : (p : Point) → IsOn n p → IsFree (number_of n p) → IsFree (at n 0 0)
  free_corner p on free =
      back (λ row. at n 0 row) (λ m low. next_row n 0 m (omega arith) low) p.row on.1
      (back (λ col. at n col p.row) (λ m low. next_column n m p.row low on.1) p.col on.0 free)

  free_point : (p : Point) → IsOn n p → IsFree (at n 0 0) → IsFree (number_of n p)
  free_point p on free =
      forth (λ col. at n col p.row) (λ m low. next_column n m p.row low on.1) p.col on.0
      (forth (λ row. at n 0 row) (λ m low. next_row n 0 m (omega arith) low) p.row on.1 free)

  free_all : (e k : ℕ) → e < n * n → colour_at g e ≡ None → k < n * n → IsFree k
  unfolding IsFree
  free_all e k e_low empty low =
      subst IsFree (number_of-point_at n k low)
      (free_point (point_at n k) (IsOn-point_at n k low)
      (free_corner (point_at n e) (IsOn-point_at n e e_low)
      (subst IsFree (sym (number_of-point_at n e e_low)) (inl empty))))

  alive : (k : ℕ) → k < n * n → IsFree k → is_dead n g k ≡ false
  unfolding IsFree
  alive k low (inl empty) = ap (λ b. not b && not (reaches n g k None)) (same_from_equal (colour_at g k) None empty)
  alive k low (inr reach) = ap (λ b. not (has_colour g k None) && not b) ((reaches_is n g k None low).1 reach)
      ∙ and_false (not (has_colour g k None))
    where
      and_false : (b : Bool) → (b && false) ≡ false
      and_false true = refl
      and_false false = refl

  pub none_dead : (e k : ℕ) → e < n * n → colour_at g e ≡ None → k < n * n → is_dead n g k ≡ false
  none_dead e k e_low empty low = alive k low (free_all e k e_low empty low)
