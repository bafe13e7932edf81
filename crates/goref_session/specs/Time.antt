-- time_settings and time_left: nothing is done with the times.
use Rattle.std.specs.Prelude.{ℕ, Option, Some}
use Rattle.go_board.specs.declared.colour.Colour.{Colour}
use Rattle.go_game.specs.Standings.{Standing}
use Rattle.goref_session.specs.Decisions.{Decided, comes_to, keeps}
use Rattle.goref_session.specs.declared.decision.Decision.TheVariants.{Refused}
use Rattle.goref_session.specs.declared.decision.Refusal.TheVariants.{SyntaxError}

abbrev pub decided_settings : Standing → Option ℕ → Option ℕ → Option ℕ → Decided
decided_settings s (Some main) (Some byo_yomi) (Some stones) = comes_to s
decided_settings s _ _ _ = keeps s (Refused SyntaxError)

abbrev pub decided_left : Standing → Option Colour → Option ℕ → Option ℕ → Decided
decided_left s (Some colour) (Some time) (Some stones) = comes_to s
decided_left s _ _ _ = keeps s (Refused SyntaxError)
