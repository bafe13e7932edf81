-- Laws of the words of this crate, each proved as the contract of a function of `laws` that does nothing. Proofs of
-- the crates above take them from there.
use Rattle.std.specs.Prelude.{◌≡◌, ◌≤◌, ◌+◌, ◌*◌, ◌⊎◌, ◌↔◌, Contains, Err, IsTrue, List, OnErr, OnOk, Result, ℕ, length}
use Rattle.go_board.specs.declared.colour.Colour.{Colour}
use Rattle.go_board.specs.declared.point.Point.{Point}
use Rattle.go_board.specs.declared.vertex.Move.{Move}
use Rattle.go_board.specs.declared.taken.Taken.{Taken}
use Rattle.go_board.specs.declared.vertex.Vertex.{Vertex}
use Rattle.go_board.specs.declared.vertex.Vertex.TheVariants.{Pass}
use Rattle.go_board.specs.Colours.{other}
use Rattle.go_board.specs.Points.{number_of}
use Rattle.go_board.specs.Reaching.{moved}
use Rattle.go_game.specs.declared.superko.Superko.TheVariants.{Positional, Situational}
use Rattle.go_game.specs.Choices.{IsChoice, chosen}
use Rattle.go_game.specs.Counts.{AreLogged, AreTakenBack, TurnCosts, most_for}
use Rattle.go_game.specs.declared.error.PlayError.{PlayError}
use Rattle.go_game.specs.declared.error.PlayError.TheVariants.{Occupied, OffBoard}
use Rattle.go_game.specs.Legal.{is_legal}
use Rattle.go_game.specs.Standings.{GameValue, IsLegal, Standing, board_of, positions_of, seen_after, situations_of, stood_of, with_moves, without_last}
use Rattle.go_game.specs.Whole.{whole_of}

-- any moves, then as many taken back, leave the standing as it was
abbrev pub MovesTakenBack : Type 0
MovesTakenBack = (s : Standing) (moves : List Move) → without_last (length moves) (with_moves s moves) ≡ s

-- any moves, then as many taken back, leave all that the game holds: colouring, chains, prisoners, history and mover
abbrev pub WholeStateRestored : Type 0
WholeStateRestored = (s : Standing) (moves : List Move)
    → whole_of (without_last (length moves) (with_moves s moves)) ≡ whole_of s

-- each cell has its old value, by what `play` and `undo` promise of the cells of a game's board
abbrev pub CellsRestored : Type 0
CellsRestored = (n : ℕ) (before then after : GameValue) → AreLogged n before then → AreTakenBack n then after
    → (after.cells ≡ before.cells) × (after.changes ≡ before.changes)

-- what is so of each turn, made or refused, that costs what it may
abbrev pub OfTurns : (Move → Result Taken PlayError → GameValue → GameValue → Type 0) → Type 0
OfTurns Holds = (made : Move) (result : Result Taken PlayError) (old new : GameValue)
    → TurnCosts made result old new → Holds made result old new

-- what the costs of a turn say of counts and writes alone
pub record CostsOfATurn : Type 0 where
  pub count : OfTurns (λ made result old new. OnOk result
      (new.count ≤ old.count + 3 * most_for old.standing made.colour made.vertex))
  pub refused : OfTurns (λ made result old new. OnErr result
      (new.count ≤ old.count + 4 * most_for old.standing made.colour made.vertex))
  pub uncounted : OfTurns (λ made result old new. (result ≡ Err OffBoard) ⊎ (result ≡ Err Occupied)
      → new.count ≡ old.count)
  pub unwritten : OfTurns (λ made result old new. (result ≡ Err OffBoard) ⊎ (result ≡ Err Occupied)
      → new.trace ≡ old.trace)
  pub pass : OfTurns (λ made result old new. made.vertex ≡ Pass → new.count ≡ old.count)

-- under the positional rule what may not come again is a colouring
abbrev pub PositionalByPositions : Type 0
PositionalByPositions = (s : Standing) (c : Colour) (p : Point) → s.rule ≡ Positional
    → Contains (stood_of s) (seen_after s c (number_of s.lines p))
    ↔ Contains (positions_of s) (moved s.lines (board_of s) c (number_of s.lines p))

-- under the situational rule it is a colouring together with the colour to move
abbrev pub SituationalBySituations : Type 0
SituationalBySituations = (s : Standing) (c : Colour) (p : Point) → s.rule ≡ Situational
    → Contains (stood_of s) (seen_after s c (number_of s.lines p))
    ↔ Contains (situations_of s) (moved s.lines (board_of s) c (number_of s.lines p), other c)

-- the test whether a move is legal holds exactly where the rules say that it is
abbrev pub LegalByTheRules : Type 0
LegalByTheRules = (s : Standing) (c : Colour) (v : Vertex) → IsTrue (is_legal s c v) ↔ IsLegal s c v

-- the choice is what its rule asks for, and nothing else is
abbrev pub ChoiceByTheRule : Type 0
ChoiceByTheRule = (s : Standing) (c : Colour) (v : Vertex) → (v ≡ chosen s c) ↔ IsChoice s c v

-- the choice is legal
abbrev pub ChoiceIsLegal : Type 0
ChoiceIsLegal = (s : Standing) (c : Colour) → IsLegal s c (chosen s c)
