-- loadsgf: what a line asks to load, the game of a record's bytes, and what is decided on that.
-- goref-printsgf answers the record of a game, which the crate of records defines.
use Rattle.std.specs.Prelude.{◌≡◌, ◌≢◌, ◌≤◌, ◌⊎◌, ℕ, List, Option, Some, None, Ok, Err, length, option_map, slice_get}
use Rattle.std.specs.Option.{option_and_then}
use Rattle.go_game.specs.Standings.{Standing}
use Rattle.go_record.specs.Games.{IsGameOf}
use Rattle.go_record.specs.declared.error.RecordError.{RecordError}
use Rattle.go_record.specs.declared.error.RecordError.TheVariants as record_error
use Rattle.go_sgf.specs.Record.{Trees}
use Rattle.go_sgf.specs.declared.limits.TheConstants.{MAX_RECORD}
use Rattle.go_sgf.specs.Refusals.{IsRefusal}
use Rattle.go_sgf.specs.Spelling.{Spells}
use Rattle.go_sgf.specs.declared.error.SgfError.{SgfError}
use Rattle.go_sgf.specs.declared.error.SgfError.TheVariants as sgf_error
use Rattle.goref_lines.specs.Requests.{Asked}
use Rattle.go_board.specs.Decimals.{int_of}
use Rattle.goref_session.specs.Commands.{command_of}
use Rattle.goref_session.specs.Contents.{Content, bytes, missing, no_memory, nothing, too_large}
use Rattle.goref_session.specs.Decisions.{Decided, comes_to, keeps}
use Rattle.goref_session.specs.declared.commands.record.LoadError.{LoadError}
use Rattle.goref_session.specs.declared.commands.record.LoadError.TheVariants as load_error
use Rattle.goref_session.specs.declared.command.Command.{Command}
use Rattle.goref_session.specs.declared.command.Command.TheVariants.{Loadsgf}
use Rattle.goref_session.specs.declared.decision.Decision.TheVariants.{Refused}
use Rattle.goref_session.specs.declared.decision.Refusal.TheVariants.{SyntaxError, CannotLoad, OutOfMemory}

-- the name of a file, and the number of the move before which it is loaded, where one is given
pub record Load : Type 0 where
  pub name : List ℕ
  pub number : Option ℕ

-- a word that is to be an int, if there is one
abbrev pub number_asked : Option (List ℕ) → Option (Option ℕ)
number_asked None = Some None
number_asked (Some word) = option_map (λ n. Some n) (int_of word)

abbrev pub load_named : Option (List ℕ) → Option (Option ℕ) → Option Load
load_named (Some name) (Some number) = Some (record { name = name; number = number })
load_named _ _ = None

-- what the arguments of `loadsgf` ask for; none where they are malformed
abbrev pub load_of : List (List ℕ) → Option Load
load_of arguments = load_named (slice_get arguments 0) (number_asked (slice_get arguments 1))

-- what a command with these arguments asks to be loaded
abbrev pub load_of_command : Option Command → List (List ℕ) → Option Load
load_of_command (Some Loadsgf) arguments = load_of arguments
load_of_command _ arguments = None

abbrev pub load_of_asked : Asked → Option Load
load_of_asked asked = load_of_command (option_and_then command_of asked.name) asked.arguments

-- the bytes, no more than the longest record has, spell a record whose game is this standing
abbrev pub Loads : List ℕ → Option ℕ → Standing → Type 0
Loads source number s = (length source ≤ MAX_RECORD) × (c : Trees) × Spells source c × IsGameOf c number (Ok s)

-- no game comes of the bytes: they are no record, or the record's game is refused
abbrev pub LoadsNone : List ℕ → Option ℕ → Type 0
LoadsNone source number = ((why : SgfError) × (why ≢ sgf_error.Memory) × IsRefusal source why)
    ⊎ ((c : Trees) × (why : RecordError) × (why ≢ record_error.Memory) × Spells source c × IsGameOf c number (Err why))

-- why no game is loaded: lack of memory has a refusal of its own
abbrev pub load_error_of_sgf : SgfError → LoadError
load_error_of_sgf sgf_error.Memory = load_error.Memory
load_error_of_sgf why = load_error.Cannot

abbrev pub load_error_of_record : RecordError → LoadError
load_error_of_record record_error.Memory = load_error.Memory
load_error_of_record why = load_error.Cannot

-- what may be decided on the bytes of a file: play goes on with the game of its record, or no game comes of
-- them, or memory lacks
abbrev pub DecidesBytes : Standing → List ℕ → Option ℕ → Decided → Type 0
DecidesBytes s b number d = ((game : Standing) × Loads b number game × (d ≡ comes_to game))
    ⊎ (LoadsNone b number × (d ≡ keeps s (Refused CannotLoad)))
    ⊎ (d ≡ keeps s (Refused OutOfMemory))

abbrev pub DecidesContent : Standing → Content → Option ℕ → Decided → Type 0
DecidesContent s (bytes b) number d = DecidesBytes s b number d
DecidesContent s no_memory number d = d ≡ keeps s (Refused OutOfMemory)
DecidesContent s nothing number d = d ≡ keeps s (Refused CannotLoad)
DecidesContent s missing number d = d ≡ keeps s (Refused CannotLoad)
DecidesContent s too_large number d = d ≡ keeps s (Refused CannotLoad)

-- `loadsgf`: what was fetched for it decides
abbrev pub DecidesLoad : Standing → Option Load → Content → Decided → Type 0
DecidesLoad s None content d = d ≡ keeps s (Refused SyntaxError)
DecidesLoad s (Some load) content d = DecidesContent s content load.number d
