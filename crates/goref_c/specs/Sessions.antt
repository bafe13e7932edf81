-- A session that is kept between calls, and what a text that is sent to it does.
use Rattle.std.specs.Prelude.{◌≡◌, ◌⊎◌, ℕ, Bool, true, false, List, [], ◌∷◌, Option, Some, None, Result, Ok, Err, length}
use Rattle.go_board.specs.declared.device.WriteFault.{WriteFault}
use Rattle.go_game.specs.Standings.{Standing}
use Rattle.goref.specs.Conversation.{AnswersLines}
use Rattle.goref.specs.Lines as goref
use Rattle.goref.specs.Lines.{is_line_end}
use Rattle.goref_c.specs.Ends.{IsText}
use Rattle.goref_c.specs.Files.{Asking, given_of}
use Rattle.goref_lines.specs.Kept.{kept}
use Rattle.goref_session.specs.Replies.{wanted}
use Rattle.goref_session.specs.Starts.{begun}
use Rattle.goref_session.specs.declared.flow.Flow.{Flow}
use Rattle.goref_session.specs.declared.flow.Flow.TheVariants.{More, Quit}

-- the standing of a session, the answers to the last text that was sent to it, and whether `quit` was
-- answered
pub record Holding : Type 0 where
  pub standing : Standing
  pub answers : List ℕ
  pub is_over : Bool

-- the lines of a text were answered by what is held now, where each line that asked for a file was given this one
abbrev pub AnswersText : Result Flow WriteFault → Option (List ℕ) → List ℕ → Holding → Holding → Type 0
AnswersText result file text old new =
    (asked : List Asking) × AnswersLines result old.standing (goref.lines text) new.standing
    (Some []) (Some (given_of file asked)) (Some []) (Some new.answers)

-- all lines were answered, and the session goes on
pub record GoesOn (file : Option (List ℕ)) (text : List ℕ) (old new : Holding) : Type 0 where
  pub was_on : old.is_over ≡ false
  pub answers : AnswersText (Ok More) file text old new
  pub is_on : new.is_over ≡ false

-- `quit` was answered in this text, or in an earlier one, and then nothing is answered
abbrev pub IsOver : Option (List ℕ) → List ℕ → Holding → Holding → Type 0
IsOver file text old new = (new.is_over ≡ true)
    × (((old.is_over ≡ false) × AnswersText (Ok Quit) file text old new)
    ⊎ ((old.is_over ≡ true) × (new ≡ record { standing = old.standing; answers = []; is_over = true })))

-- there was no memory for the whole of an answer
pub record WasCut (file : Option (List ℕ)) (text : List ℕ) (old new : Holding) : Type 0 where
  pub was_on : old.is_over ≡ false
  pub fault : WriteFault
  pub answers : AnswersText (Err fault) file text old new
  pub is_on : new.is_over ≡ false

-- what a text does
abbrev pub Sends : Result Flow WriteFault → Option (List ℕ) → List ℕ → Holding → Holding → Type 0
Sends (Ok More) file text old new = GoesOn file text old new
Sends (Ok Quit) file text old new = IsOver file text old new
Sends (Err fault) file text old new = WasCut file text old new

-- a session that was sent nothing, on a board of this many lines
abbrev pub fresh : ℕ → Holding
fresh n = record { standing = begun n; answers = []; is_over = false }

-- What a text with a file, or with none, does to the session of a handle, by the status of the call. The
-- length is that of the answers.
abbrev pub ComesTo : ℕ → Option (List ℕ) → List ℕ → Option Holding → Option Holding → ℕ → Type 0
ComesTo status file text None new count = (status ≡ 4) × (new ≡ None) × (count ≡ 0)
ComesTo status file text (Some old) new count =
    (held : Holding) × (new ≡ Some held) × (count ≡ length held.answers)
    × ((status ≡ 0) × GoesOn file text old held
    ⊎ ((status ≡ 1) × IsOver file text old held
    ⊎ ((status ≡ 3) × WasCut file text old held)))

-- the room has the answers that are held, or there is no session
abbrev pub ShowsAnswered : ℕ → Option Holding → List ℕ → List ℕ → ℕ → Type 0
ShowsAnswered status None room room' count = (status ≡ 4) × IsText [] room room' count
ShowsAnswered status (Some held) room room' count = (status ≡ 0) × IsText held.answers room room' count

-- a line, or that line with one more byte before it
abbrev pub line_goes_on : Bool → ℕ → List ℕ → List ℕ
line_goes_on true b line = []
line_goes_on false b line = b ∷ line

-- the bytes before the first line end
abbrev pub line_at_start : List ℕ → List ℕ
line_at_start [] = []
line_at_start (b ∷ text) = line_goes_on (is_line_end b) b (line_at_start text)

-- the room has the name of the file that a line asks for, where it asks for one
abbrev pub ShowsName : ℕ → Option (List ℕ) → List ℕ → List ℕ → ℕ → Type 0
ShowsName status None room room' count = (status ≡ 1) × IsText [] room room' count
ShowsName status (Some name) room room' count = (status ≡ 0) × IsText name room room' count

-- the same of the first line of a text
abbrev pub ShowsWanted : ℕ → List ℕ → List ℕ → List ℕ → ℕ → Type 0
ShowsWanted status text = ShowsName status (wanted (kept (line_at_start text)))
