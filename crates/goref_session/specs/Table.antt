-- What is decided on each command.
use Rattle.std.specs.Prelude.{◌≡◌, ℕ, List, Option, Some, None, slice_get}
use Rattle.std.specs.Option.{option_and_then}
use Rattle.go_game.specs.Standings.{Standing}
use Rattle.goref_session.specs.Arguments.{colour_given, int_given, komi_given, rule_given, vertex_given}
use Rattle.goref_session.specs.Commands.{command_of}
use Rattle.goref_session.specs.Contents.{Content}
use Rattle.goref_session.specs.Decisions.{Decided, MayDecide, comes_to, keeps}
use Rattle.goref_session.specs.Handicap.{decided_fixed, decided_free, decided_stones}
use Rattle.goref_session.specs.Play.{DecidesPlay, decided_choice, decided_genmove, decided_legal, decided_undo}
use Rattle.goref_session.specs.Record.{DecidesLoad, load_of}
use Rattle.goref_session.specs.Setup.{decided_komi, decided_size, decided_superko}
use Rattle.goref_session.specs.Starts.{emptied}
use Rattle.goref_session.specs.Telling.{decided_known, decided_topic}
use Rattle.goref_session.specs.Time.{decided_left, decided_settings}
use Rattle.goref_session.specs.declared.command.Command.{Command}
use Rattle.goref_session.specs.declared.command.Command.TheVariants.{Asks, KnownCommand, Quit, Boardsize, ClearBoard, Komi, Play, Genmove, Undo, RegGenmove, Loadsgf, FixedHandicap, PlaceFreeHandicap, SetFreeHandicap, TimeSettings, TimeLeft, Legal, Superko}
use Rattle.goref_session.specs.declared.decision.Decision.TheVariants.{Ends, Refused}
use Rattle.goref_session.specs.declared.decision.Refusal.TheVariants.{UnknownCommand}
use Rattle.goref_lines.specs.Requests.{Asked}
use Rattle.goref_lines.specs.Stones.{stones_listed}

-- what may be decided on a command with these arguments, the content being what was fetched for it
abbrev pub DecidesOn : Standing → Command → List (List ℕ) → Content → Decided → Type 0
DecidesOn s (Asks topic) arguments content d = d ≡ decided_topic s topic
DecidesOn s KnownCommand arguments content d = d ≡ decided_known s (slice_get arguments 0)
DecidesOn s Quit arguments content d = d ≡ keeps s Ends
DecidesOn s Boardsize arguments content d = d ≡ decided_size s (int_given arguments 0)
DecidesOn s ClearBoard arguments content d = d ≡ comes_to (emptied s s.lines)
DecidesOn s Komi arguments content d = d ≡ decided_komi s (komi_given arguments 0)
DecidesOn s Play arguments content d = DecidesPlay s (colour_given arguments 0) (vertex_given arguments 1) d
DecidesOn s Genmove arguments content d = MayDecide s (decided_genmove s (colour_given arguments 0)) d
DecidesOn s Undo arguments content d = d ≡ decided_undo s s.moves
DecidesOn s RegGenmove arguments content d = MayDecide s (decided_choice s (colour_given arguments 0)) d
DecidesOn s Loadsgf arguments content d = DecidesLoad s (load_of arguments) content d
DecidesOn s FixedHandicap arguments content d = MayDecide s (decided_fixed s (int_given arguments 0)) d
DecidesOn s PlaceFreeHandicap arguments content d = MayDecide s (decided_free s (int_given arguments 0)) d
DecidesOn s SetFreeHandicap arguments content d = MayDecide s (decided_stones s (stones_listed s.lines arguments)) d
DecidesOn s TimeSettings arguments content d =
    d ≡ decided_settings s (int_given arguments 0) (int_given arguments 1) (int_given arguments 2)
DecidesOn s TimeLeft arguments content d =
    d ≡ decided_left s (colour_given arguments 0) (int_given arguments 1) (int_given arguments 2)
DecidesOn s Legal arguments content d = MayDecide s (decided_legal s (colour_given arguments 0)) d
DecidesOn s Superko arguments content d = d ≡ decided_superko s s.moves (rule_given arguments 0)

-- what may be decided on a name, which may be that of no command
abbrev pub DecidesIf : Standing → Option Command → List (List ℕ) → Content → Decided → Type 0
DecidesIf s None arguments content d = d ≡ keeps s (Refused UnknownCommand)
DecidesIf s (Some command) arguments content d = DecidesOn s command arguments content d

-- what may be decided on what the words of a line ask
abbrev pub Decides : Standing → Asked → Content → Decided → Type 0
Decides s asked content d = DecidesIf s (option_and_then command_of asked.name) asked.arguments content d
