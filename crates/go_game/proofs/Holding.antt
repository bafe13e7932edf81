-- What a play that takes nothing leaves its colour, from what the colours hold without it.
use Rattle.std.specs.Prelude.{Some, None, slice_set, ℤ, pos, ◌-ℤ◌, ◌↔◌}
use Rattle.std.proofs.Common.{arith, ◌≡◌, ◌≢◌, ◌<◌, ◌+◌, ◌*◌, ◌∙◌, ◌⊎◌, inl, inr, ℕ, List, Option, length, refl, sym, ap, ap₂, subst}
use Rattle.std.proofs.lemmas.Bool.{cases_eq}
use Rattle.std.proofs.lemmas.List.{get_or-set_same, get_or-set_other}
use Rattle.go_board.specs.declared.colour.Colour.{Colour}
use Rattle.go_board.specs.declared.colour.Colour.TheVariants.{Black, White}
use Rattle.go_board.specs.declared.point.Point.{Point}
use Rattle.go_board.specs.Colours.{Colouring, colour_at, other}
use Rattle.go_board.specs.Gains.{Gains}
use Rattle.go_board.specs.Laws.{PointsByNumber}
use Rattle.go_board.specs.Points.{number_of, point_at}
use Rattle.go_board.specs.Rows.{AreStones, IsIn, rows_of}
use Rattle.go_board.specs.declared.rows.ByColour.{ByColour}
use Rattle.go_chains.specs.Boards.{IsStoneOf}
use Rattle.go_game.specs.declared.holdings.Holdings.{Holdings}
use Rattle.go_game.specs.Choices.{lead_on}
use Rattle.go_game.specs.inner.Trials.{AreHoldings}

-- the stones of each colour, from those of both
pub of_colour : (n : ℕ) (g : Colouring) (stones : ByColour (List ℕ)) → AreStones n g Black stones.black →
    AreStones n g White stones.white → (c : Colour) → AreStones n g c (rows_of stones c)
of_colour n g stones black white Black = black
of_colour n g stones black white White = white

-- a point without a stone is empty
pub no_colour : (g : Colouring) (p : ℕ) → (IsStoneOf g p → ⊥) → colour_at g p ≡ None
no_colour g p none = told (colour_at g p) refl
  where
    told : (o : Option Colour) → colour_at g p ≡ o → o ≡ None
    told None is = refl
    told (Some c) is = absurd (none (c, is))

-- the lead after a stone with this gain
pub lead_gained : (n : ℕ) (g : Colouring) (c : Colour) (p : ℕ) (h : Holdings) (gain : ℕ) → AreHoldings n g c h →
    Gains n g c p gain
    → lead_on n (slice_set g p (Some c)) c ≡ pos (h.own_area + gain) -ℤ pos h.theirs_area
lead_gained n g c p h gain hold gains =
    ap₂ (λ (a b : ℕ). pos a -ℤ pos b) (gains.own ∙ ap (λ k. k + gain) (sym hold.own_area))
    (gains.theirs ∙ sym hold.theirs_area)

-- the lead with a stone on the place, on a board of as many lines
abbrev LeadTold : ℕ → ℕ → Holdings → ℤ → Type 0
LeadTold lines place h lead = (g : Colouring) (c : Colour) → AreHoldings lines g c h → colour_at g place ≡ None →
    lead ≡ lead_on lines (slice_set g place (Some c)) c

pub lead_placed : (n lines row col : ℕ) (g : Colouring) (c : Colour) (p : Point) (h : Holdings) (lead : ℤ) →
    AreHoldings n g c h → lines ≡ n → row ≡ p.row → col ≡ p.col
    → colour_at g (number_of n p) ≡ None → LeadTold lines (row * lines + col) h lead →
    lead ≡ lead_on n (slice_set g (number_of n p) (Some c)) c
lead_placed n lines row col g c p h lead hold lines_is row_is col_is empty told =
    subst (λ k. LeadTold k (row * lines + col) h lead) lines_is told g c hold (ap (colour_at g) place ∙ empty)
    ∙ ap (λ k. lead_on n (slice_set g k (Some c)) c) place
  where
    place : row * lines + col ≡ number_of n p
    place = ap₂ (λ r k. r * k + col) row_is lines_is ∙ ap (λ k. p.row * n + k) col_is

pub other-other : (c : Colour) → other (other c) ≡ c
other-other Black = refl
other-other White = refl

apart : (c : Colour) → Some c ≡ Some (other c) → ⊥
apart Black e = cc e
apart White e = cc e

-- with a stone on an empty point, the rows of a colour have its place too, and those of the other colour stay
module _ (law : PointsByNumber) (n row col : ℕ) (g : Colouring) (c : Colour) (whole : length g ≡ n * n)
    (row_in : row < n) (col_in : col < n) (empty : colour_at g (row * n + col) ≡ None) where
  abbrev after : Colouring
  after = slice_set g (row * n + col) (Some c)

  abbrev place : ℕ → ℕ → Point
  place r k = record { col = k; row = r }

  low : row * n + col < n * n
  low = law.number n (place row col) (col_in, row_in)

  here : colour_at after (row * n + col) ≡ Some c
  here = get_or-set_same g (row * n + col) (Some c) None (omega (arith, low, whole))

  same_place : (r k : ℕ) → r < n → k < n → r * n + k ≡ row * n + col → place r k ≡ place row col
  same_place r k r_in k_in e = sym (law.back n (place r k) (k_in, r_in)) ∙ ap (point_at n) e
      ∙ law.back n (place row col) (col_in, row_in)

  elsewhere : (r k : ℕ) → (r * n + k ≢ row * n + col) → colour_at after (r * n + k) ≡ colour_at g (r * n + k)
  elsewhere r k off = get_or-set_other g (row * n + col) (r * n + k) (Some c) None off

  pub theirs_stay : (theirs : List ℕ) → AreStones n g (other c) theirs → AreStones n after (other c) theirs
  theirs_stay theirs are r k = (
    λ set. (let h = (are r k).0 set in (
      h.0,
      h.1,
      elsewhere r k (λ e. (let e' : Some (other c) ≡ None = sym h.2 ∙ ap (colour_at g) e ∙ empty in cc e'))
          ∙ h.2,
    )),
    λ h. elim (cases_eq (r * n + k) (row * n + col)) [
      | inl is ↦ absurd (apart c (sym here ∙ ap (colour_at after) (sym is) ∙ h.2))
      | inr off ↦ (are r k).1 (h.0, h.1, sym (elsewhere r k off) ∙ h.2)
    ],
  )

  pub own_grows : (own own' : List ℕ) → AreStones n g c own →
      ((r k : ℕ) → IsIn own' r k ↔ (((r ≡ row) × (k ≡ col)) ⊎ IsIn own r k)) → AreStones n after c own'
  own_grows own own' are put r k = (
    λ set. elim ((put r k).0 set) [
      | inl is ↦ (
        omega (arith, is.0, row_in),
        omega (arith, is.1, col_in),
        ap₂ (λ i j. colour_at after (i * n + j)) is.0 is.1 ∙ here,
      )
      | inr was ↦ (let h = (are r k).0 was in (
        h.0,
        h.1,
        elim (cases_eq (r * n + k) (row * n + col))
            [ inl is ↦ ap (colour_at after) is ∙ here | inr off ↦ elsewhere r k off ∙ h.2 ],
      ))
    ],
    λ h. (put r k).1 (elim (cases_eq (r * n + k) (row * n + col)) [
      | inl is ↦ (let same = same_place r k h.0 h.1 is in
          inl (ap (λ (p : Point). p.row) same, ap (λ (p : Point). p.col) same))
      | inr off ↦ inr ((are r k).1 (h.0, h.1, sym (elsewhere r k off) ∙ h.2))
    ]),
  )
