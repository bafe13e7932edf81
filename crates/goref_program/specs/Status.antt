-- The exit status of the program.
use Rattle.std.specs.Prelude.{◌≡◌, ◌⊎◌, ℕ, List, Result, Ok, Err}
use Rattle.clap.specs.declared.error.kind.ErrorKind.{ErrorKind}
use Rattle.clap.specs.declared.error.kind.ErrorKind.TheVariants.{DisplayHelp, DisplayVersion, OutOfMemory}
use Rattle.goref_program.specs.declared.ends.Fault.{Fault}
use Rattle.goref_program.specs.declared.ends.Fault.TheVariants.{Run, Tool}
use Rattle.clap.specs.Walk.{Text}
use Rattle.goref.specs.CommandLine.{IsPlainUse, Means}
use Rattle.goref.specs.Task.{Task}
use Rattle.goref.specs.Tools.{status_of}
use Rattle.goref_program.specs.Tasks.{IsFaultOf}

-- the status of words from which no task came: 0 where they asked for a text that was shown, and else 2
abbrev pub words_status : ErrorKind → ℕ
words_status DisplayHelp = 0
words_status DisplayVersion = 0
words_status _ = 2

-- the status of a fault: 3 where a run met it, and else that of the tool's refusal or fault
abbrev pub fault_status : Fault → ℕ
fault_status (Run _) = 3
fault_status (Tool why) = status_of why

-- the status of a task: 0 where it was done, and else that of its fault
abbrev pub end_status : Result (Unit {0}) Fault → ℕ
end_status (Ok _) = 0
end_status (Err fault) = fault_status fault

-- the possible statuses of a task: 0, or that of one of its possible faults
abbrev pub IsStatusOf : Task → ℕ → Type 0
IsStatusOf task status = (status ≡ 0) ⊎ ((fault : Fault) × IsFaultOf task fault × (status ≡ fault_status fault))

-- the status after words that name no task: that of the text that is shown, or 3 where a text that they asked
-- for couldn't be shown
abbrev pub IsStatusOfText : ErrorKind → ℕ → Type 0
IsStatusOfText kind status = (status ≡ words_status kind) ⊎ ((words_status kind ≡ 0) × (status ≡ 3))

-- The status after words: that of the task that they mean, or that of a text. For a plain use a text is shown
-- only where memory lacks.
abbrev pub FollowsWords : List Text → ℕ → Type 0
FollowsWords words status =
    ((task : Task) × Means words task × IsStatusOf task status)
    ⊎ ((kind : ErrorKind) × (IsPlainUse words → kind ≡ OutOfMemory) × IsStatusOfText kind status)
