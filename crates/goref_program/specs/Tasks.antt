-- What a task does on its devices.
use Rattle.std.specs.Prelude.{◌≡◌, ◌+◌, ℕ, IfErr, IfSome, List, OnOk, Option, Result, Err}
use Rattle.goref.specs.Conversation.{Converses}
use Rattle.goref.specs.Judging.{BeginsToJudge, Judges}
use Rattle.goref.specs.Lines.{lines}
use Rattle.goref.specs.Runs.{AnswersComplete, AnswersPrefix, Devices}
use Rattle.goref.specs.Starts.{begun}
use Rattle.goref.specs.Task.{Task}
use Rattle.goref.specs.Task.TheVariants.{Gtp, Judge, Tidy}
use Rattle.goref.specs.Tidying.{BeginsToTidy, Tidies}
use Rattle.goref.specs.ToolError.TheVariants as tool_error
use Rattle.goref.specs.Tools.{Refuses, RefusesGame}
use Rattle.goref.specs.declared.error.RunError.TheVariants as run_error
use Rattle.goref_program.specs.declared.ends.Fault.{Fault}
use Rattle.goref_program.specs.declared.ends.Fault.TheVariants.{Run, Tool}

-- where it was done: a session over the lines of the input, the verdict on it, or its canonical spelling
abbrev pub Does : Task → List ℕ → Devices → Devices → Type 0
Does (Gtp size) input old new = Converses (begun size) (lines input) old.given new.given old.taken new.taken
Does Judge input old new = Judges input old.taken new.taken
Does Tidy input old new = Tidies input old.taken new.taken

-- the faults of a task that wasn't done: those of a run of lines, or those of a tool
abbrev pub IsFaultOf : Task → Fault → Type 0
IsFaultOf (Gtp size) (Run why) = Unit {0}
IsFaultOf (Gtp size) (Tool why) = ⊥
IsFaultOf _ (Run why) = ⊥
IsFaultOf _ (Tool why) = Unit {0}

-- what was done then: a session answered all that it read, or wrote a prefix of those answers; a tool wrote
-- nothing, or a prefix of its text
abbrev pub Breaks : Task → Fault → Devices → Devices → Type 0
Breaks (Gtp size) (Run run_error.Write) old new = AnswersPrefix (begun size) old new
Breaks (Gtp size) (Run _) old new = AnswersComplete (begun size) old new
Breaks Judge (Tool tool_error.Write) old new = IfSome old.left (λ input. BeginsToJudge input old.taken new.taken)
Breaks Tidy (Tool tool_error.Write) old new = IfSome old.left (λ input. BeginsToTidy input old.taken new.taken)
Breaks Judge (Tool _) old new = new.taken ≡ old.taken
Breaks Tidy (Tool _) old new = new.taken ≡ old.taken
Breaks task fault old new = ⊥

-- if the fault is `Sgf` or `Record`, the input is really refused for it
abbrev pub IsRefused : Option (List ℕ) → Fault → Type 0
IsRefused left (Tool (tool_error.Sgf why)) = Refuses left why
IsRefused left (Tool (tool_error.Record why)) = RefusesGame left why
IsRefused left _ = Unit {0}

-- the count of failed reads after a task: one more where it ended by one
abbrev pub read_failures_after : {T : Type 0} → Result T Fault → ℕ → ℕ
read_failures_after (Err (Run run_error.Read)) old = old + 1
read_failures_after (Err (Tool tool_error.Read)) old = old + 1
read_failures_after _ old = old

-- the count of failed writes and flushes after a task: one more where it ended by one
abbrev pub write_failures_after : {T : Type 0} → Result T Fault → ℕ → ℕ
write_failures_after (Err (Run run_error.Write)) old = old + 1
write_failures_after (Err (Tool tool_error.Write)) old = old + 1
write_failures_after _ old = old

-- How a task ends on its devices: it is done, or a fault of its kind ends it. A fault of a device is counted
-- once, a refusal is the input's, and if the writer held nothing back at the start, it doesn't after a task
-- that is done.
pub record Performs {T : Type 0} (task : Task) (result : Result T Fault) (old new : Devices) : Type 0 where
  pub ok : OnOk result (IfSome old.left (λ bytes. Does task bytes old new))
  pub held : OnOk result (old.held ≡ 0 → new.held ≡ 0)
  pub fault : IfErr result (IsFaultOf task)
  pub refused : IfErr result (IsRefused old.left)
  pub breaks : IfErr result (λ fault. Breaks task fault old new)
  pub read_failures : new.read_failures ≡ read_failures_after result old.read_failures
  pub write_failures : new.write_failures ≡ write_failures_after result old.write_failures
