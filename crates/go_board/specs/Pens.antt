-- What is written piece by piece, and what a pen writes to its device.
use Rattle.std.specs.Prelude.{◌≡◌, ◌+◌, ◌++◌, ℕ, Bool, true, false, if◌then◌else◌, List, Option}
use Rattle.go_board.specs.declared.device.Sink.{Ghosts}
use Rattle.go_board.specs.declared.pen.Pen.{Pen}
use Rattle.go_board.specs.Device.{TakesPrefix, then_bytes}

-- what a device took of a text written so far: all of it, or a prefix of it after a fault
abbrev pub TookSoFar : Bool → Option (List ℕ) → Option (List ℕ) → List ℕ → Type 0
TookSoFar false start now text = now ≡ then_bytes start text
TookSoFar true start now text = TakesPrefix start now text

-- from a start on a device was given this text, and it failed at most once since
pub record Wrote (has_failed : Bool) (start now : Option (List ℕ))
    (failures_at_start failures : ℕ) (text : List ℕ) : Type 0 where
  pub took : TookSoFar has_failed start now text
  pub counted : failures ≡ (if has_failed then failures_at_start + 1 else failures_at_start)

-- the state of a writer: whether it failed, what the device took, and the count of failures
pub record Place : Type 0 where
  pub has_failed : Bool
  pub taken : Option (List ℕ)
  pub failures : ℕ

-- the place made of these three
abbrev pub place : Bool → Option (List ℕ) → ℕ → Place
place has_failed taken failures = record { has_failed = has_failed; taken = taken; failures = failures }

-- if a text was written at the old place, that text and more are written at the new one
pub record Adds (old new : Place) (more : List ℕ) : Type 0 where
  pub grown : (start : Option (List ℕ)) (failures : ℕ) (text : List ℕ) →
      Wrote old.has_failed start old.taken failures old.failures text →
      Wrote new.has_failed start new.taken failures new.failures (text ++ more)

-- the state of a pen: whether it failed, what its device took, and the count of failures
abbrev pub place_of : {S : Type 0} → Ghosts S → Pen S → Place
place_of sink pen = place pen.has_failed (sink.taken pen.writer.now) (sink.failures pen.writer.now)

-- the pen wrote this to the device that it borrows, as far as that took it
pub record Writes {S : Type 0} (sink : Ghosts S) (old new : Pen S) (text : List ℕ) : Type 0 where
  pub same : new.writer.ghost_name ≡ old.writer.ghost_name
  pub adds : Adds (place_of sink old) (place_of sink new) text
