-- Sets of the points that a colour holds.
use Rattle.std.specs.Prelude.{Some, None, slice_set}
use Rattle.std.proofs.Common.{◌≡◌, ◌<◌, ◌*◌, ◌+◌, ◌∙◌, inl, inr, true, false, ℕ, List, length, sym}
use Rattle.std.proofs.lemmas.Bool.{cases_Bool}
use Rattle.go_board.specs.declared.colour.Colour.{Colour}
use Rattle.go_board.specs.declared.point.Point.{Point}
use Rattle.go_board.specs.Colours.{Colouring, colour_at, other}
use Rattle.go_board.specs.Rows.{AreHeld, IsIn, is_held}
use Rattle.go_board.proofs.Gaining.{own_same, theirs_same}
use Rattle.go_board.proofs.Numbers.{number_of-lt}

-- what a set of held points says of one of the board
pub held_in : (n : ℕ) (g : Colouring) (c : Colour) (rows : List ℕ) (row col : ℕ) → AreHeld n g c rows →
    IsIn rows row col → is_held n g c (row * n + col) ≡ true
held_in n g c rows row col held inside = ((held row col).0 inside).2

pub held_out : (n : ℕ) (g : Colouring) (c : Colour) (rows : List ℕ) (row col : ℕ) → row < n → col < n →
    AreHeld n g c rows → (IsIn rows row col → ⊥) → is_held n g c (row * n + col) ≡ false
held_out n g c rows row col row_low col_low held outside = elim (cases_Bool (is_held n g c (row * n + col))) [
  | inl inside ↦ absurd (outside ((held row col).1 (row_low, col_low, inside)))
  | inr not_held ↦ not_held
]

pub point_low : (n row col : ℕ) → row < n → col < n → row * n + col < n * n
point_low n row col row_low col_low = let p : Point = record { col = col; row = row } in
    number_of-lt n p (col_low, row_low)

-- a set of what a colour holds is one on another board where it holds the same
held_same : (n : ℕ) (g after : Colouring) (c : Colour) (rows : List ℕ) →
    ((x : ℕ) → x < n * n → is_held n after c x ≡ is_held n g c x) → AreHeld n g c rows → AreHeld n after c rows
held_same n g after c rows same held r k = (
  λ set. (let h = (held r k).0 set in (h.0, h.1, same (r * n + k) (point_low n r k h.0 h.1) ∙ h.2)),
  λ h. (held r k).1 (h.0, h.1, sym (same (r * n + k) (point_low n r k h.0 h.1)) ∙ h.2),
)

-- with a stone on an empty point
module _ (n : ℕ) (g : Colouring) (c : Colour) (rows : List ℕ) (row col : ℕ) (row_low : row < n) (col_low : col < n)
    (whole : length g ≡ n * n) (empty : colour_at g (row * n + col) ≡ None) where
  pub own_kept : AreHeld n g c rows → IsIn rows row col → AreHeld n (slice_set g (row * n + col) (Some c)) c rows
  own_kept held inside =
      held_same n g (slice_set g (row * n + col) (Some c)) c rows
      (own_same n g c (row * n + col) whole (point_low n row col row_low col_low) empty
      (held_in n g c rows row col held inside)) held

  pub theirs_kept : AreHeld n g (other c) rows → (IsIn rows row col → ⊥) →
      AreHeld n (slice_set g (row * n + col) (Some c)) (other c) rows
  theirs_kept held outside =
      held_same n g (slice_set g (row * n + col) (Some c)) (other c) rows
      (theirs_same n g c (row * n + col) whole (point_low n row col row_low col_low) empty
      (held_out n g (other c) rows row col row_low col_low held outside)) held
