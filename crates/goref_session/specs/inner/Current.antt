-- Which of a session's games is current. For the contracts of private functions.
use Rattle.std.specs.Prelude.{Option, Some, None, cond}
use Rattle.go_game.specs.Standings.{Standing}
use Rattle.goref_session.specs.declared.second.Second.{Second}

-- the standing of the current game: of the second if it is current, else of the first
abbrev pub current_of : {A : Type 0} → Standing → Option (Second A) → Standing
current_of first None = first
current_of first (Some second) = cond second.is_current second.game.value.standing first
