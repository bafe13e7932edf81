-- What is made of a refused move, and of the end of a load. For the contracts of private functions.
use Rattle.std.specs.Prelude.{Result, Ok, Err}
use Rattle.go_game.specs.Standings.{Standing}
use Rattle.go_game.specs.declared.error.PlayError.{PlayError}
use Rattle.go_game.specs.declared.error.PlayError.TheVariants.{OffBoard, Occupied, Repeats, Memory}
use Rattle.goref_session.specs.Decisions.{Decided, comes_to, keeps}
use Rattle.goref_session.specs.declared.decision.Decision.TheVariants.{Refused}
use Rattle.goref_session.specs.declared.decision.Refusal.{Refusal}
use Rattle.goref_session.specs.declared.decision.Refusal.TheVariants.{IllegalMove, OutOfMemory}

-- what the answer says of a refused move
abbrev pub move_refusal : PlayError → Refusal
move_refusal OffBoard = IllegalMove
move_refusal Occupied = IllegalMove
move_refusal (Repeats k) = IllegalMove
move_refusal Memory = OutOfMemory

-- what is decided where a load ends so: its game is gone on with, or it is refused
abbrev pub after_load : Standing → Standing → Result (Unit {0}) Refusal → Decided
after_load s game (Ok done) = comes_to game
after_load s game (Err why) = keeps s (Refused why)
