-- The states of the program's streams: the bytes that are left of an input, and those given to an output.
use Rattle.std.specs.Prelude.{ℕ, ◌-◌, ◌==◌, if◌then◌else◌, List, Option}
use Rattle.std.specs.Io.KnownBytes.{append_known}

-- an input: the bytes that its stream has left, where it shows them, and the counts of reads, of failures and
-- of ends found
pub record Reading : Type 0 where
  pub remaining : Option (List ℕ)
  pub pulls : ℕ
  pub failures : ℕ
  pub ends : ℕ

-- an output: the bytes that its stream holds, where it shows them, those kept back, and the count of failures
pub record Writing : Type 0 where
  pub contents : Option (List ℕ)
  pub kept : List ℕ
  pub failures : ℕ

-- all bytes that an output was given
abbrev pub given_to : Writing → Option (List ℕ)
given_to writing = append_known writing.contents writing.kept

-- the most bytes that a put takes, by the limit and the number of kept bytes; a full output is emptied first
abbrev pub room : ℕ → ℕ → ℕ
room limit kept = if kept == limit then limit else limit - kept
