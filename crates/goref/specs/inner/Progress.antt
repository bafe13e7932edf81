-- The words in which the private functions below a run say how far it has come.
use Rattle.std.specs.Prelude.{◌≡◌, ℕ, false, true, List, [], ◌∷◌, ◌++◌, Option, Result, Ok, Err, IfOk, OnOk}
use Rattle.go_board.specs.Device.{failures_after}
use Rattle.go_board.specs.declared.device.Sink as sink
use Rattle.goref_lines.specs.Words.{has_bytes}
use Rattle.go_board.specs.declared.device.WriteFault.{WriteFault}
use Rattle.goref_session.specs.declared.flow.Flow.{Flow}
use Rattle.goref_session.specs.declared.flow.Flow.TheVariants.{More, Quit}
use Rattle.go_game.specs.Standings.{Standing}
use Rattle.goref_lines.specs.Kept.{Kept, kept}
use Rattle.goref.specs.Lines.{is_line_end, lines, complete_lines, unfinished_line}
use Rattle.goref_session.specs.Contents.{Content}
use Rattle.goref.specs.Shelves.{Pair, then_pairs}
use Rattle.goref_session.specs.Replies.{wanted}
use Rattle.goref.specs.Conversation.{AsksShelf, Converses, GoesOn, WasCut}

-- a run that has read these bytes, and answered the lines that are complete
pub record Progress (s : Standing) (read : List ℕ) (line : Kept) (now : Standing) (given given' : Option (List Pair))
    (taken taken' : Option (List ℕ)) : Type 0 where
  pub goes_on : GoesOn s (complete_lines read) now given given' taken taken'
  pub keeps : line ≡ kept (unfinished_line read)

-- a run that read these bytes: it goes on, or ended by `quit`, or broke off by a fault
abbrev pub Proceeds : Result Flow WriteFault → Standing → List ℕ → Kept → Standing → Option (List Pair) →
    Option (List Pair) → Option (List ℕ) → Option (List ℕ) → Type 0
Proceeds (Ok More) s read line now given given' taken taken' = Progress s read line now given given' taken taken'
Proceeds (Ok Quit) s read line now given given' taken taken' =
    (more : List ℕ) → Converses s (lines (read ++ more)) given given' taken taken'
Proceeds (Err e) s read line now given given' taken taken' =
    (more : List ℕ) → WasCut s (lines (read ++ more)) now given given' taken taken'

-- what was fetched for a line
pub record Fetches (line : Kept) (content : Content) (given given' : Option (List Pair)) : Type 0 where
  pub asked : List Pair
  pub asks : AsksShelf (wanted line) content asked
  pub tells : given' ≡ then_pairs given asked

-- The response to a line of this text was flushed, where it has one: nothing is written then, and nothing held back.
pub record Flushes {W : Type 0} (output : sink.Ghosts W) (text : List ℕ) (flow : Flow) (result : Result Flow WriteFault)
    (writer writer' : W) : Type 0 where
  pub same : IfOk result (λ passed. passed ≡ flow)
  pub discarded : has_bytes text ≡ false → result ≡ Ok flow
  pub bytes : output.taken writer' ≡ output.taken writer
  pub passed : OnOk result (has_bytes text ≡ true → output.held writer' ≡ 0)
  pub silent : has_bytes text ≡ false → output.held writer' ≡ output.held writer
  pub failures : output.failures writer' ≡ failures_after result (output.failures writer)

-- no byte of it ends a line
abbrev pub HasNoEnd : List ℕ → Type 0
HasNoEnd [] = Unit {0}
HasNoEnd (b ∷ bytes) = (is_line_end b ≡ false) × HasNoEnd bytes
