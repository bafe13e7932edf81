-- The commands and their names.
use Rattle.std.specs.Prelude.{ℕ, List, [], ◌∷◌, Option, codes, find, map, option_map}
use Rattle.std.specs.Str.{bytes_eq}
use Rattle.goref_session.specs.declared.command.Command.{Command}
use Rattle.goref_session.specs.declared.command.Command.TheVariants.{Asks, KnownCommand, Quit, Boardsize, ClearBoard, Komi, Play, Genmove, Undo, RegGenmove, Loadsgf, FixedHandicap, PlaceFreeHandicap, SetFreeHandicap, TimeSettings, TimeLeft, Legal, Superko}
use Rattle.goref_session.specs.declared.command.Topic.TheVariants.{Protocol, Program, Release, Commands, Score, Board, Chains, Record}

-- the name by which a line asks for a command, and the command
abbrev pub Named : Type 0
Named = List ℕ × Command

-- all commands, in the order in which they are listed
abbrev pub commands : List Named
commands =
    (codes "protocol_version", Asks Protocol)
    ∷ (codes "name", Asks Program)
    ∷ (codes "version", Asks Release)
    ∷ (codes "known_command", KnownCommand)
    ∷ (codes "list_commands", Asks Commands)
    ∷ (codes "quit", Quit)
    ∷ (codes "boardsize", Boardsize)
    ∷ (codes "clear_board", ClearBoard)
    ∷ (codes "komi", Komi)
    ∷ (codes "play", Play)
    ∷ (codes "genmove", Genmove)
    ∷ (codes "undo", Undo)
    ∷ (codes "reg_genmove", RegGenmove)
    ∷ (codes "loadsgf", Loadsgf)
    ∷ (codes "fixed_handicap", FixedHandicap)
    ∷ (codes "place_free_handicap", PlaceFreeHandicap)
    ∷ (codes "set_free_handicap", SetFreeHandicap)
    ∷ (codes "final_score", Asks Score)
    ∷ (codes "showboard", Asks Board)
    ∷ (codes "time_settings", TimeSettings)
    ∷ (codes "time_left", TimeLeft)
    ∷ (codes "goref-chains", Asks Chains)
    ∷ (codes "goref-legal", Legal)
    ∷ (codes "goref-printsgf", Asks Record)
    ∷ (codes "goref-superko", Superko)
    ∷ []

abbrev pub command_names : List (List ℕ)
command_names = map (λ named. named.0) commands

-- the command of this name, if it is one of these
abbrev pub command_among : List Named → List ℕ → Option Command
command_among these name = option_map (λ named. named.1) (find (λ named. bytes_eq name named.0) these)

-- the command of this name
abbrev pub command_of : List ℕ → Option Command
command_of name = command_among commands name
