-- The outcome of the events of a main line: a standing, or why there is none.
use Rattle.std.specs.Prelude.{◌≡◌, ◌+◌, ℕ, ℤ, Bool, not, ◌&&◌, ◌⊎◌, if◌then◌else◌, List, [], ◌∷◌, Option, Some, None, Result, Ok, Err, length, slice_set}
use Rattle.std.specs.List.{list_any}
use Rattle.go_board.specs.declared.colour.Colour.{Colour}
use Rattle.go_board.specs.declared.colour.Colour.TheVariants.{Black, White}
use Rattle.go_board.specs.declared.point.Point.{Point}
use Rattle.go_board.specs.declared.vertex.Vertex.{Vertex}
use Rattle.go_board.specs.Living.{IsFirstDead, AreAlive}
use Rattle.go_board.specs.Colours.{Colouring, colour_named}
use Rattle.go_board.specs.Points.{number_of}
use Rattle.go_board.specs.Reaching.{has_colour, points}
use Rattle.go_game.specs.declared.error.PlayError.{PlayError}
use Rattle.go_game.specs.declared.error.PlayError.TheVariants.{Occupied, OffBoard, Repeats, Memory}
use Rattle.go_game.specs.declared.superko.Superko.TheVariants.{Positional}
use Rattle.go_game.specs.Standings.{IsLegal, IsOccupied, IsOffBoard, IsRepeat, Standing, with_move}
use Rattle.go_sgf.specs.BoardValues.{vertex_in, points_by_values}
use Rattle.go_sgf.specs.Numbers.{trimmed}
use Rattle.go_record.specs.declared.error.RecordError.{RecordError}
use Rattle.go_record.specs.declared.error.RecordError.TheVariants.{BadValue, DeadSetup, Illegal, SetupAfterMove}
use Rattle.go_record.specs.MainLine.{Event, stones, turn, move_met}

-- a standing, or a refusal
abbrev pub Outcome : Type 0
Outcome = Result Standing RecordError

-- the outcome with the value, or a refusal at its node where it is malformed
abbrev pub OrBad : {X : Type 0} → ℕ → Option X → Outcome → (X → Type 0) → Type 0
OrBad node None outcome Later = outcome ≡ Err (BadValue node)
OrBad node (Some x) outcome Later = Later x

-- why a move isn't legal
abbrev pub IsReason : Standing → Colour → Vertex → PlayError → Type 0
IsReason s c v OffBoard = IsOffBoard s v
IsReason s c v Occupied = IsOccupied s v
IsReason s c v (Repeats k) = (IsOffBoard s v → ⊥) × (IsOccupied s v → ⊥) × IsRepeat s c v k
IsReason s c v Memory = ⊥

-- The next move, counted from 1, is refused.
pub record IsRefused (s : Standing) (c : Colour) (v : Vertex) (outcome : Outcome) : Type 0 where
  pub why : PlayError
  pub reason : IsReason s c v why
  pub refusal : outcome ≡ Err (Illegal (length s.moves + 1) why)

-- Once a move was played: moves are judged by the rules, set-up of stones is refused, and the colour
-- to move is skipped.
unfoldable pub Plays : Standing → List Event → Outcome → Type 0
Plays s [] outcome = outcome ≡ Ok s
Plays s (stones node colour values ∷ events) outcome = outcome ≡ Err (SetupAfterMove node)
Plays s (turn node value ∷ events) outcome = Plays s events outcome
Plays s (move_met node colour value ∷ events) outcome =
    OrBad node (vertex_in s.lines value) outcome (λ v.
    (IsLegal s colour v × Plays (with_move s (record { colour = colour; vertex = v })) events outcome)
    ⊎ IsRefused s colour v outcome)

-- these points get the colour, or are emptied
abbrev pub with_points : ℕ → Option Colour → Colouring → List Point → Colouring
with_points n c g [] = g
with_points n c g (p ∷ ps) = with_points n c (slice_set g (number_of n p) c) ps

-- with white space at both ends skipped
abbrev pub colour_stated : List ℕ → Option Colour
colour_stated value = colour_named (trimmed value)

abbrev pub holds_stones : ℕ → Colouring → Colour → Bool
holds_stones n g c = list_any (λ k. has_colour g k (Some c)) (points n)

-- the given colour, or else White if there are only black stones, or else Black
abbrev pub opening_mover : ℕ → Colouring → Option Colour → Colour
opening_mover n g (Some c) = c
opening_mover n g None = if holds_stones n g Black && not (holds_stones n g White) then White else Black

-- records are judged by the positional rule
abbrev pub start_of : ℕ → ℤ → Colouring → Option Colour → Standing
start_of n komi g given =
    record { lines = n; komi = komi; rule = Positional; start = g; first = opening_mover n g given; moves = [] }

-- The start has a stone that doesn't reach empty.
pub record IsDeadSetup (n : ℕ) (g : Colouring) (outcome : Outcome) : Type 0 where
  pub point : Point
  pub first : IsFirstDead n g point
  pub refusal : outcome ≡ Err (DeadSetup point)

-- the start is judged, and then the moves
abbrev pub Begins : ℕ → ℤ → Colouring → Option Colour → List Event → Outcome → Type 0
Begins n komi g given events outcome =
    (AreAlive n g × Plays (start_of n komi g given) events outcome) ⊎ IsDeadSetup n g outcome

-- Before the first move: stones are set up, and the colour to move is given.
unfoldable pub SetsUp : ℕ → ℤ → Colouring → Option Colour → List Event → Outcome → Type 0
SetsUp n komi g given [] outcome = Begins n komi g given [] outcome
SetsUp n komi g given (stones node colour values ∷ events) outcome =
    OrBad node (points_by_values n values) outcome
    (λ ps. SetsUp n komi (with_points n colour g ps) given events outcome)
SetsUp n komi g given (turn node value ∷ events) outcome =
    OrBad node (colour_stated value) outcome (λ c. SetsUp n komi g (Some c) events outcome)
SetsUp n komi g given (move_met node colour value ∷ events) outcome =
    Begins n komi g given (move_met node colour value ∷ events) outcome
