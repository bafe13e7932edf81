-- What trials of plays find. For the contracts of the choice's own parts.
use Rattle.std.specs.Prelude.{◌≡◌, ◌<◌, ◌≤◌, ◌+◌, ◌*◌, ℕ, Bool, true, false, Option, Some, None, if◌then◌else◌, length, slice_set}
use Rattle.go_board.specs.declared.colour.Colour.{Colour}
use Rattle.go_board.specs.declared.point.Point.{Point}
use Rattle.go_board.specs.declared.vertex.Vertex.TheVariants.{At}
use Rattle.go_board.specs.Colours.{Colouring, other}
use Rattle.go_board.specs.Grids.{GridValue}
use Rattle.go_board.specs.Points.{number_of, point_at}
use Rattle.go_board.specs.Reaching.{area}
use Rattle.go_board.specs.Rows.{AreHeld, AreStones}
use Rattle.go_chains.specs.Playing.{reads_around}
use Rattle.go_game.specs.Counts.{IsAsBefore, IsLogged, most_for}
use Rattle.go_game.specs.declared.choice.Judged.{Judged}
use Rattle.go_game.specs.declared.choice.Judged.TheVariants.{Illegal, StillPlaced, Quiet}
use Rattle.go_game.specs.declared.choice.Trial.{Trial}
use Rattle.go_game.specs.declared.holdings.Holdings.{Holdings}
use Rattle.go_game.specs.Choices.{is_better, lead_after, liberties_after, liberties_on, may_play, outranks}
use Rattle.go_game.specs.Legal.{Takes, is_legal}
use Rattle.go_game.specs.Standings.{GameValue, Standing, after_vertex, board_of, with_move}

-- the liberties of the chain of the stone on a point, none if no stone is there
abbrev pub liberties_at : GridValue → Point → ℕ
liberties_at g p = liberties_on g.lines g.colours (number_of g.lines p)

-- the trial of the play on p
abbrev pub trial_at : Standing → Colour → ℕ → Trial
trial_at s c p = record { point = point_at s.lines p; lead = lead_after s c p; liberties = liberties_after s c p }

-- the same, where the play is legal
abbrev pub tried : Standing → Colour → ℕ → Option Trial
tried s c p = if may_play s c p then Some (trial_at s c p) else None

-- one trial is better than another
abbrev pub beats : Trial → Trial → Bool
beats t u = outranks t.lead t.liberties u.lead u.liberties

-- the better one of two, the earlier where neither is
abbrev pub better_of : Option Trial → Option Trial → Option Trial
better_of None later = later
better_of (Some t) None = Some t
better_of (Some t) (Some u) = if beats u t then Some u else Some t

-- p is a legal play among the first i points: none of them is better, and each before it is worse
pub record IsBestBelow (s : Standing) (c : Colour) (i p : ℕ) : Type 0 where
  pub below : p < i
  pub legal : may_play s c p ≡ true
  pub best : (q : ℕ) → q < i → may_play s c q ≡ true → is_better s c q p ≡ false
  pub first : (q : ℕ) → q < p → may_play s c q ≡ true → is_better s c p q ≡ true

-- the trial is of the first of the best plays among the first i points, or none of them is legal
abbrev pub IsBestTrial : Standing → Colour → ℕ → Option Trial → Type 0
IsBestTrial s c i None = (p : ℕ) → p < i → may_play s c p ≡ false
IsBestTrial s c i (Some t) = (p : ℕ) × IsBestBelow s c i p × (t ≡ trial_at s c p)

-- the play on a point, as a trial of it, where it is legal
abbrev pub tried_on : Standing → Colour → Point → Option Trial
tried_on s c p = if is_legal s c (At p) then
    Some (record {
      point = p;
      lead = lead_after s c (number_of s.lines p);
      liberties =
          liberties_after s c (number_of s.lines p);
    }) else None

-- the stones of c and of the other colour, and what they hold
pub record AreHoldings (n : ℕ) (g : Colouring) (c : Colour) (h : Holdings) : Type 0 where
  pub whole : length g ≡ n * n
  pub own : AreStones n g c h.own
  pub theirs : AreStones n g (other c) h.theirs
  pub own_held : AreHeld n g c h.own_held
  pub theirs_held : AreHeld n g (other c) h.theirs_held
  pub own_area : h.own_area ≡ area n g c
  pub theirs_area : h.theirs_area ≡ area n g (other c)

-- what is found of a play on p: an illegal one, and one that takes nothing, leave the game as it was; any other is the
-- last move
abbrev pub IsJudged : Colour → Point → Judged → GameValue → GameValue → Type 0
IsJudged c p Illegal old new = (is_legal old.standing c (At p) ≡ false) × IsAsBefore old new
IsJudged c p Quiet old new = (is_legal old.standing c (At p) ≡ true) × IsAsBefore old new
    × (after_vertex old.standing.lines (board_of old.standing) c (At p)
    ≡ slice_set (board_of old.standing) (number_of old.standing.lines p) (Some c))
    × (new.count ≤ old.count + reads_around)
IsJudged c p StillPlaced old new = (is_legal old.standing c (At p) ≡ true) × Takes old.standing c (At p)
    × (new.standing ≡ with_move old.standing (record { colour = c; vertex = At p }))
    × IsLogged old new (most_for old.standing c (At p))
    × (new.count ≤ old.count + 3 * most_for old.standing c (At p))
