-- What the program's words mean: the command by which clap reads them, and the task of its matches.
use Rattle.std.specs.Prelude.{◌≡◌, ◌<◌, ◌≤◌, ◌⊎◌, ℕ, List, [], ◌∷◌, Some, codes, pos, true, map}
use Rattle.std.specs.Fmt.{decimal}
use Rattle.std.specs.Borrow.{Bor}
use Rattle.std.specs.Str.Parse.{digits_value, without_leading_plus}
use Rattle.clap.specs.Walk.{Row, Rule, Text, one_of}
use Rattle.clap.specs.Simple.{App, new_app, new_rule, on_top, subcommand_of, with_rule, with_subcommand}
use Rattle.clap.specs.declared.builder.value_parser.ValueParser.TheVariants as vp
use Rattle.go_board.specs.declared.size.TheConstants.{MAX_LINES}
use Rattle.goref_cli.specs.declared.task.Task.{Task}
use Rattle.goref_cli.specs.declared.task.Task.TheVariants.{Gtp, Judge, Tidy}

-- the option `--size`: a number of lines that a board has, and 19 where none is given
abbrev pub size_option : Rule
size_option = record (new_rule (codes "size")) {
  long = Some (codes "size");
  value_names = 1;
  defaults = codes "19" ∷ [];
  parser = Some (vp.Signed (pos 1) (pos MAX_LINES));
}

-- the subcommand `gtp` with its option
abbrev pub gtp_command : App
gtp_command = with_rule (new_app (codes "gtp")) size_option

-- the subcommand `judge`
abbrev pub judge_command : App
judge_command = new_app (codes "judge")

-- the subcommand `tidy`
abbrev pub tidy_command : App
tidy_command = new_app (codes "tidy")

-- the program before its subcommands are added: it has a version, and needs one of them
abbrev pub bare_program : App
bare_program = on_top (λ s. record s { has_version = true; subcommand_required = true }) (new_app (codes "goref"))

-- the program's simple command
abbrev pub program : App
program =
    with_subcommand (with_subcommand (with_subcommand bare_program gtp_command.top) judge_command.top) tidy_command.top

-- the matches state this number of lines
abbrev pub HasSize : List Row → ℕ → Type 0
HasSize rows n = (t : Text) × (one_of (codes "size") rows ≡ Some t)
    × (digits_value 10 (without_leading_plus t) ≡ n)

-- the subcommand and its matches ask for the task
abbrev pub Asks : Text × List Row → Task → Type 0
Asks p (Gtp size) = (p.0 ≡ codes "gtp") × HasSize p.1 size
Asks p Judge = p.0 ≡ codes "judge"
Asks p Tidy = p.0 ≡ codes "tidy"

-- the words, the program's own name first, mean the task
abbrev pub Means : List Text → Task → Type 0
Means words task =
    (p : Text × List Row) × (subcommand_of program words ≡ Some p) × Asks p task

-- a board has this number of lines
abbrev pub IsSize : ℕ → Type 0
IsSize n = (0 < n) × (n ≤ MAX_LINES)

-- `gtp`, `judge`, `tidy`, or `gtp --size N` for the number N of a size, after the program's own name
abbrev pub IsPlainUse : List Text → Type 0
IsPlainUse [] = ⊥
IsPlainUse (name ∷ rest) = (rest ≡ codes "gtp" ∷ [])
    ⊎ (rest ≡ codes "judge" ∷ [])
    ⊎ (rest ≡ codes "tidy" ∷ [])
    ⊎ ((n : ℕ) × IsSize n × (rest ≡ codes "gtp" ∷ codes "--size" ∷ decimal n ∷ []))

-- the texts of the words
abbrev pub texts_of : List (Bor Text) → List Text
texts_of = map (λ word. word.now)
