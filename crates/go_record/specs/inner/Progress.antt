-- How far a walk along a main line is, for the contracts of private functions.
use Rattle.go_sgf.specs.MainLine.{IsLeft}
use Rattle.go_sgf.specs.Record.{Property, Trees}
use Rattle.std.specs.Prelude.{◌≡◌, ◌≢◌, codes, ◌-◌, ◌++◌, ◌∷◌, ℕ, ℤ, Bool, true, false, if◌then◌else◌, List, [], Option, Some, None, Result, Err, MatchResult}
use Rattle.std.specs.Borrow.{Bor}
use Rattle.go_board.specs.declared.colour.Colour.{Colour}
use Rattle.go_board.specs.Colours.{Colouring}
use Rattle.go_game.specs.Standings.{GameValue}
use Rattle.go_record.specs.declared.error.RecordError.{RecordError}
use Rattle.go_record.specs.declared.error.RecordError.TheVariants.{Memory}
use Rattle.go_record.specs.declared.root.Found.{Found}
use Rattle.go_record.specs.declared.root.RootValues.{RootValues}
use Rattle.go_record.specs.declared.state.Remaining.{Remaining}
use Rattle.go_record.specs.declared.state.Remaining.TheVariants.{All, Moves, Nothing}
use Rattle.go_record.specs.declared.moves.MovesMet.{MovesMet}
use Rattle.go_record.specs.declared.moves.MovesMet.TheVariants.{NoMove, OneMove, MoreMoves}
use Rattle.go_record.specs.declared.state.Walk.{Walk}
use Rattle.go_record.specs.Games.{is_go_value, komi_in, lines_in, value_at_root, value_named}
use Rattle.go_record.specs.MainLine.{Event, before_move, move_met}
use Rattle.go_record.specs.Walks.{Outcome, Plays, SetsUp}

-- the later events that are visited
abbrev pub seen : Remaining → List Event → List Event
seen All events = events
seen (Moves k) events = before_move k events
seen Nothing events = []

-- no later event is visited
abbrev pub is_nothing : Remaining → Bool
is_nothing All = false
is_nothing (Moves k) = false
is_nothing Nothing = true

-- the outcome of events before the first move, or after one
abbrev pub From : ℕ → ℤ → Colouring → Option Colour → Option GameValue → List Event → Outcome → Type 0
From n komi g given None events outcome = SetsUp n komi g given events outcome
From n komi g given (Some game) events outcome = Plays game.standing events outcome

-- from this game on, all of these events have the outcome
abbrev pub GoesFrom : Walk → Option GameValue → List Event → Outcome → Type 0
GoesFrom w game events outcome = From w.grid.lines w.komi w.grid.colours w.given_mover game events outcome

-- a walk, and the game that its moves are played on
abbrev pub WalkedGame : Type 0
WalkedGame = Walk × GameValue

-- the game, once a move was met
abbrev pub playing : WalkedGame → Option GameValue
playing at = if at.0.has_played then Some at.1 else None

-- from here on these events have the outcome
abbrev pub Goes : WalkedGame → List Event → Outcome → Type 0
Goes at events outcome = GoesFrom at.0 (playing at) (seen at.0.remaining events) outcome

-- Between the two states the walk visited these events.
pub record Passes (old : WalkedGame) (events : List Event) (new : WalkedGame) : Type 0 where
  pub passed : (later : List Event) (outcome : Outcome) → Goes new later outcome → Goes old (events ++ later) outcome

-- Among these events the walk ends with this refusal. Memory may run out anywhere.
pub record Stops (old : WalkedGame) (events : List Event) (error : RecordError) : Type 0 where
  pub stopped : error ≢ Memory → (later : List Event) → Goes old (events ++ later) (Err error)

abbrev pub Walked : {T : Type 0} → Result T RecordError → WalkedGame → List Event → WalkedGame → Type 0
Walked result old events new = MatchResult result (λ _. Passes old events new) (Stops old events)

-- a record is of a game of Go on this many lines with this komi
pub record Says (c : Trees) (n : ℕ) (komi : ℤ) : Type 0 where
  pub go : is_go_value (value_at_root (codes "GM") c) ≡ true
  pub size : lines_in (value_at_root (codes "SZ") c) ≡ Some n
  pub komi_said : komi_in (value_at_root (codes "KM") c) ≡ Some komi

-- the events that are visited by a walk that ends before the move of a number
abbrev pub remaining_by : Option ℕ → Remaining
remaining_by None = All
remaining_by (Some n) = Moves (n - 1)

-- some values of a property are left, and then these properties and nodes
abbrev pub IsAmongValues : List ℕ → List Property → List (List Property) → Type 0
IsAmongValues text properties nodes = (values : List (List ℕ)) × IsLeft text values properties nodes

-- the values at the root of a record
pub record IsRootOf (values : RootValues) (c : Trees) : Type 0 where
  pub game : values.game.now ≡ value_at_root (codes "GM") c
  pub size : values.size.now ≡ value_at_root (codes "SZ") c
  pub komi : values.komi.now ≡ value_at_root (codes "KM") c
  pub result_said : values.result.now ≡ value_at_root (codes "RE") c

-- the first value of the first property with a name: the one that was found, or else that among the properties left
abbrev pub value_from : List ℕ → Option (Bor (List ℕ)) → List Property → List ℕ
value_from name None remaining = value_named name remaining
value_from name (Some value) remaining = value.now

-- the values at the root of a record that were found so far, with these properties of the first node left
pub record AreFoundOf (found : Found) (remaining : List Property) (c : Trees) : Type 0 where
  pub game : value_from (codes "GM") found.game remaining ≡ value_at_root (codes "GM") c
  pub size : value_from (codes "SZ") found.size remaining ≡ value_at_root (codes "SZ") c
  pub komi : value_from (codes "KM") found.komi remaining ≡ value_at_root (codes "KM") c
  pub result_said : value_from (codes "RE") found.result remaining ≡ value_at_root (codes "RE") c

-- the moves that were met are these; if there are more than one, it says nothing of them
abbrev pub AreMoves : ℕ → MovesMet → List Event → Type 0
AreMoves node NoMove events = events ≡ []
AreMoves node (OneMove colour value) events = events ≡ move_met node colour value.now ∷ []
AreMoves node MoreMoves events = Unit {0}
