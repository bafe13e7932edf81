-- boardsize, komi and goref-superko: what is set before a game. clear_board is in Starts.
use Rattle.std.specs.Prelude.{ℕ, ℤ, ◌&&◌, List, [], ◌∷◌, Option, Some, None, codes, if◌then◌else◌, nat_le}
use Rattle.std.specs.Str.{bytes_eq}
use Rattle.go_board.specs.declared.size.TheConstants.{MAX_LINES}
use Rattle.go_board.specs.declared.vertex.Move.{Move}
use Rattle.go_game.specs.Standings.{Standing}
use Rattle.go_game.specs.declared.superko.Superko.{Superko}
use Rattle.go_game.specs.declared.superko.Superko.TheVariants.{Positional, Situational}
use Rattle.goref_session.specs.Decisions.{Decided, comes_to, keeps}
use Rattle.goref_session.specs.Starts.{emptied}
use Rattle.goref_session.specs.declared.decision.Decision.TheVariants.{Refused}
use Rattle.goref_session.specs.declared.decision.Refusal.TheVariants.{SyntaxError, UnacceptableSize, GameInProgress}

-- `boardsize`: an empty board of this size; the komi and the rule stay
abbrev pub decided_size : Standing → Option ℕ → Decided
decided_size s None = keeps s (Refused SyntaxError)
decided_size s (Some n) =
    if nat_le 1 n && nat_le n MAX_LINES then comes_to (emptied s n) else keeps s (Refused UnacceptableSize)

-- `komi`: only the komi changes, which is no move
abbrev pub decided_komi : Standing → Option ℤ → Decided
decided_komi s None = keeps s (Refused SyntaxError)
decided_komi s (Some komi) = comes_to (record s { komi = komi })

-- the superko rule of this name, in lower case
abbrev pub rule_of : List ℕ → Option Superko
rule_of word =
    if bytes_eq word (codes "positional") then Some Positional
    else (if bytes_eq word (codes "situational") then Some Situational else None)

-- `goref-superko`: the rule is set where there is no move
abbrev pub decided_superko : Standing → List Move → Option Superko → Decided
decided_superko s moves None = keeps s (Refused SyntaxError)
decided_superko s [] (Some rule) = comes_to (record s { rule = rule })
decided_superko s (m ∷ moves) (Some rule) = keeps s (Refused GameInProgress)
