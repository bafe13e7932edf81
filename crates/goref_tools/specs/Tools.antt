-- What a tool reads of its input, and how it ends.
use Rattle.std.specs.Prelude.{◌≡◌, ◌≢◌, ◌≤◌, ◌+◌, ℕ, List, [], Option, IfErr, IfSome, None, OnOk, Result, Err, codes, length}
use Rattle.go_board.specs.declared.device.Sink as sink
use Rattle.go_board.specs.declared.device.Source as source
use Rattle.go_board.specs.Device.{after_bytes}
use Rattle.go_record.specs.Games.{IsGameOf}
use Rattle.go_record.specs.declared.error.RecordError.{RecordError}
use Rattle.go_record.specs.declared.error.RecordError.TheVariants as record_error
use Rattle.go_sgf.specs.Record.{Trees}
use Rattle.go_record.specs.Reasons.{record_error_text}
use Rattle.go_sgf.specs.Refusals.{IsRefusal, sgf_error_text}
use Rattle.go_sgf.specs.Spelling.{Spells}
use Rattle.go_sgf.specs.declared.error.SgfError.{SgfError}
use Rattle.go_sgf.specs.declared.error.SgfError.TheVariants.{Memory}
use Rattle.go_sgf.specs.declared.limits.TheConstants.{MAX_RECORD}
use Rattle.goref_tools.specs.declared.error.ToolError.{ToolError}
use Rattle.goref_tools.specs.declared.error.ToolError.TheVariants as tool_error
use Rattle.goref_tools.specs.declared.error.ToolError.TheVariants.{Sgf, Record, Read, Write}

-- the device gave at most one byte more than the largest record has
pub record Reads (left left' : Option (List ℕ)) : Type 0 where
  pub bytes : List ℕ
  pub few : length bytes ≤ MAX_RECORD + 1
  pub given : left ≡ after_bytes bytes left'

-- these bytes were read: all up to the end of the input, or one more than the largest record has
pub record IsInput (bytes : List ℕ) (left left' : Option (List ℕ)) : Type 0 where
  pub few : length bytes ≤ MAX_RECORD + 1
  pub given : left ≡ after_bytes bytes left'
  pub ended : length bytes ≤ MAX_RECORD → IfSome left' (λ xs. xs ≡ [])

-- the whole input is refused for this, which isn't lack of memory
abbrev pub Refuses : Option (List ℕ) → SgfError → Type 0
Refuses left why = (why ≢ Memory) × IfSome left (λ input. IsRefusal input why)

-- the game of the record that the input spells is refused for this
abbrev pub HasNoGame : List ℕ → RecordError → Type 0
HasNoGame input why = (c : Trees) × Spells input c × IsGameOf c None (Err why)

-- the whole input has no game for this reason, which isn't lack of memory
abbrev pub RefusesGame : Option (List ℕ) → RecordError → Type 0
RefusesGame left why = (why ≢ record_error.Memory) × IfSome left (λ input. HasNoGame input why)

-- the tool's error for a refused record; lack of memory has its own
abbrev pub tool_error_of_sgf : SgfError → ToolError
tool_error_of_sgf Memory = tool_error.Memory
tool_error_of_sgf why = Sgf why

-- the tool's error for a refused game; lack of memory has its own
abbrev pub tool_error_of_record : RecordError → ToolError
tool_error_of_record record_error.Memory = tool_error.Memory
tool_error_of_record why = Record why

-- the exit status: 1 for a refused record or game, 3 for a fault, lack of memory among them
abbrev pub status_of : ToolError → ℕ
status_of (Sgf Memory) = 3
status_of (Record record_error.Memory) = 3
status_of (Sgf _) = 1
status_of (Record _) = 1
status_of _ = 3

-- the count of failed reads after a tool's run: one more where it ended by one
abbrev pub read_failures_after : {T : Type 0} → Result T ToolError → ℕ → ℕ
read_failures_after (Err Read) old = old + 1
read_failures_after _ old = old

-- the count of failed writes and flushes after a tool's run: one more where it ended by one
abbrev pub write_failures_after : {T : Type 0} → Result T ToolError → ℕ → ℕ
write_failures_after (Err Write) old = old + 1
write_failures_after _ old = old

-- What a tool does to its devices. It reads at most one byte more than the largest record has, and meets the
-- end at most once. A fault of a device is counted once, if it ended the tool. After any error but `Write`
-- nothing is written. After success nothing is held back.
pub record UsesDevices {T R W : Type 0} (input : source.Ghosts R) (output : sink.Ghosts W) (result : Result T ToolError)
    (reader reader' : R) (writer writer' : W) : Type 0 where
  pub reads : Reads (input.left reader) (input.left reader')
  pub pulls : input.pulls reader' ≤ input.pulls reader + MAX_RECORD + 2
  pub one_end : input.ends reader' ≤ input.ends reader + 1
  pub read_failures : input.failures reader' ≡ read_failures_after result (input.failures reader)
  pub write_failures : output.failures writer' ≡ write_failures_after result (output.failures writer)
  pub nothing_written : IfErr result (λ error. error ≢ Write → output.taken writer' ≡ output.taken writer)
  pub passed : OnOk result (output.held writer' ≡ 0)

abbrev pub tool_error_text : ToolError → List ℕ
tool_error_text (Sgf why) = sgf_error_text why
tool_error_text (Record why) = record_error_text why
tool_error_text Read = codes "read fault"
tool_error_text Write = codes "write fault"
tool_error_text tool_error.Memory = codes "out of memory"
