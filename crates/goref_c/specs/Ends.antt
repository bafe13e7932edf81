-- What a call leaves in its caller's room, and what its status says.
use Rattle.std.specs.Prelude.{◌≡◌, ◌≢◌, ℕ, List, ◌++◌, codes, drop, length, map, take}
use Rattle.go_record.specs.Reasons.{record_error_text}
use Rattle.go_record.specs.Verdicts.{IsVerdict}
use Rattle.go_record.specs.declared.error.RecordError.{RecordError}
use Rattle.go_record.specs.declared.error.RecordError.TheVariants as record_error
use Rattle.go_record.specs.declared.verdict.Verdict.{Verdict}
use Rattle.go_sgf.specs.Record.{Trees}
use Rattle.go_sgf.specs.Refusals.{IsRefusal, sgf_error_text}
use Rattle.go_sgf.specs.Spelling.{Spells, canonical}
use Rattle.go_sgf.specs.declared.error.SgfError.{SgfError}
use Rattle.go_sgf.specs.declared.error.SgfError.TheVariants as sgf_error
use Rattle.goref.specs.Conversation.{Conversation}
use Rattle.goref.specs.Lines as goref
use Rattle.goref_c.specs.Files.{no_file}
use Rattle.goref_session.specs.Starts.{begun}
use Rattle.goref_tools.specs.Judging.{verdict_text}
use Rattle.goref_tools.specs.Tools.{HasNoGame}

-- The count is the length of a text. The room begins with the text, or with as much of it as fits, and its rest is as
-- before.
pub record IsText (text room room' : List ℕ) (count : ℕ) : Type 0 where
  pub whole : count ≡ length text
  pub shown : room' ≡ take (length room) text ++ drop (length text) room

-- the room has the canonical text of the record that a source spells
abbrev pub ShowsTidied : List ℕ → List ℕ → List ℕ → ℕ → Type 0
ShowsTidied source room room' count = (c : Trees) × Spells source c × IsText (canonical c) room room' count

-- the room has the verdict on the record that a source spells
abbrev pub ShowsVerdict : List ℕ → List ℕ → List ℕ → ℕ → Type 0
ShowsVerdict source room room' count =
    (c : Trees) × Spells source c × ((v : Verdict) × IsVerdict c v × IsText (verdict_text v) room room' count)

-- the room says why a source is no record
abbrev pub ShowsRefusal : List ℕ → List ℕ → List ℕ → ℕ → Type 0
ShowsRefusal source room room' count =
    (why : SgfError) × (why ≢ sgf_error.Memory) × IsRefusal source why × IsText (sgf_error_text why) room room' count

-- the room says why the record that a source spells has no game
abbrev pub ShowsGameRefusal : List ℕ → List ℕ → List ℕ → ℕ → Type 0
ShowsGameRefusal source room room' count =
    (why : RecordError) × (why ≢ record_error.Memory) × HasNoGame source why
    × IsText (record_error_text why) room room' count

-- the room says that there was no memory
abbrev pub ShowsNoMemory : List ℕ → List ℕ → ℕ → Type 0
ShowsNoMemory room room' count = IsText (codes "out of memory") room room' count

-- the room has the answers to the lines of a text, from the start on a board of this many lines, without a
-- file
abbrev pub ShowsAnswers : ℕ → List ℕ → List ℕ → List ℕ → ℕ → Type 0
ShowsAnswers n text room room' count =
    (names : List (List ℕ)) × ((answers : List ℕ)
    × Conversation (begun n) (goref.lines text) (map no_file names) answers × IsText answers room room' count)
