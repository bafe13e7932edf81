-- The plain choice: a maximum over all legal plays.
use Rattle.std.specs.Prelude.{◌≡◌, ◌<◌, ◌⊎◌, ◌-ℤ◌, ◌<ℤ◌, ◌≤ℤ◌, ◌&&◌, ◌||◌, ℕ, ℤ, pos, int_lt, Bool, not, nat_lt, List, [], ◌∷◌, None, filter, if◌then◌else◌, length}
use Rattle.std.specs.List.{list_any}
use Rattle.go_board.specs.declared.colour.Colour.{Colour}
use Rattle.go_board.specs.declared.vertex.Vertex.{Vertex}
use Rattle.go_board.specs.declared.vertex.Vertex.TheVariants.{Pass, At}
use Rattle.go_board.specs.Chains.{liberties}
use Rattle.go_board.specs.Colours.{Colouring, other}
use Rattle.go_board.specs.declared.point.Point.{Point}
use Rattle.go_board.specs.Points.{number_of, point_at}
use Rattle.go_board.specs.Reaching.{area, has_colour, moved, points}
use Rattle.go_game.specs.Legal.{is_legal}
use Rattle.go_game.specs.Standings.{IsLegal, Standing, board_of}

-- the colour may play on the point with this number
abbrev pub may_play : Standing → Colour → ℕ → Bool
may_play s c p = is_legal s c (At (point_at s.lines p))

-- the legal plays of a colour, in point order
abbrev pub legal_plays : Standing → Colour → List ℕ
legal_plays s c = filter (may_play s c) (points s.lines)

-- by how many points a colour is ahead, without komi
abbrev pub lead_on : ℕ → Colouring → Colour → ℤ
lead_on n g c = pos (area n g c) -ℤ pos (area n g (other c))

abbrev pub lead_of : Standing → Colour → ℤ
lead_of s c = lead_on s.lines (board_of s) c

-- the same after a play
abbrev pub lead_after : Standing → Colour → ℕ → ℤ
lead_after s c p = lead_on s.lines (moved s.lines (board_of s) c p) c

-- the liberties of the chain of the stone on p, none if no stone is there
abbrev pub liberties_on : ℕ → Colouring → ℕ → ℕ
liberties_on n g p = if has_colour g p None then 0 else length (liberties n g p)

-- those of the placed stone after a play
abbrev pub liberties_after : Standing → Colour → ℕ → ℕ
liberties_after s c p = liberties_on s.lines (moved s.lines (board_of s) c p) p

-- a lead with a number of liberties is better than another: greater, or no less and with more liberties
abbrev pub outranks : ℤ → ℕ → ℤ → ℕ → Bool
outranks lead liberties lead' liberties' = int_lt lead' lead || (not (int_lt lead lead') && nat_lt liberties' liberties)

-- the play on p is better than the one on q
abbrev pub is_better : Standing → Colour → ℕ → ℕ → Bool
is_better s c p q = outranks (lead_after s c p) (liberties_after s c p) (lead_after s c q) (liberties_after s c q)

-- no legal play is better
abbrev pub is_best : Standing → Colour → ℕ → Bool
is_best s c p = not (list_any (λ q. is_better s c q p) (legal_plays s c))

-- the play raises the colour's margin
abbrev pub raises_margin : Standing → Colour → ℕ → Bool
raises_margin s c p = int_lt (lead_of s c) (lead_after s c p)

abbrev pub first_or_pass : ℕ → List ℕ → Vertex
first_or_pass n [] = Pass
first_or_pass n (p ∷ plays) = At (point_at n p)

-- the choice: of the legal plays the best, of these those that raise the margin, and of these the
-- first in point order; a pass where there is none
unfoldable pub chosen : Standing → Colour → Vertex
chosen s c = first_or_pass s.lines (filter (raises_margin s c) (filter (is_best s c) (legal_plays s c)))

-- the play on p is better than the one on q: a greater lead, or the same with more liberties
abbrev pub IsBetter : Standing → Colour → Point → Point → Type 0
IsBetter s c p q =
    let i = number_of s.lines p in
    let j = number_of s.lines q in
    (lead_after s c j <ℤ lead_after s c i)
    ⊎ ((lead_after s c i ≡ lead_after s c j) × (liberties_after s c j < liberties_after s c i))

-- the play is legal and raises the margin, none is better, and each before it is worse
pub record IsChosenPlay (s : Standing) (c : Colour) (p : Point) : Type 0 where
  pub legal : IsLegal s c (At p)
  pub raises : lead_of s c <ℤ lead_after s c (number_of s.lines p)
  pub best : (q : Point) → IsLegal s c (At q) → IsBetter s c q p → ⊥
  pub first : (q : Point) → IsLegal s c (At q) → number_of s.lines q < number_of s.lines p → IsBetter s c p q

-- the rule of the choice: such a play, or a pass where no play raises the margin
abbrev pub IsChoice : Standing → Colour → Vertex → Type 0
IsChoice s c Pass = (p : Point) → IsLegal s c (At p) → lead_after s c (number_of s.lines p) ≤ℤ lead_of s c
IsChoice s c (At p) = IsChosenPlay s c p
