-- What a run did when it ended.
use Rattle.std.specs.Prelude.{◌≡◌, ◌≢◌, ◌≤◌, ◌⊎◌, ℕ, ◌+◌, List, Option, Result, Err, IfSome, IsErrOf, OnOk, codes, length}
use Rattle.go_board.specs.declared.device.Sink as sink
use Rattle.go_board.specs.declared.device.Source as source
use Rattle.go_board.specs.Device.{after_bytes}
use Rattle.goref.specs.declared.error.RunError.{RunError}
use Rattle.goref.specs.declared.error.RunError.TheVariants.{Endless, Read, Write}
use Rattle.go_game.specs.Standings.{Standing}
use Rattle.goref.specs.Lines.{lines, complete_lines}
use Rattle.goref.specs.Shelves.{Pair}
use Rattle.goref.specs.Conversation.{Converses, BreaksOff}

-- What the devices of a run show: of the input the bytes that are left, its reads, the ends that it met and its
-- failures; the pairs that the shelf gave; of the output the bytes that it took, those that it holds back, and its
-- failures. Bytes and pairs are shown by devices that tell them.
pub record Devices : Type 0 where
  pub left : Option (List ℕ)
  pub pulls : ℕ
  pub ends : ℕ
  pub read_failures : ℕ
  pub given : Option (List Pair)
  pub taken : Option (List ℕ)
  pub held : ℕ
  pub write_failures : ℕ

abbrev pub devices_of : {R W : Type 0} → source.Ghosts R → sink.Ghosts W → R → W → Option (List Pair) → Devices
devices_of input output reader writer given = record {
  left = input.left reader;
  pulls = input.pulls reader;
  ends = input.ends reader;
  read_failures = input.failures reader;
  given = given;
  taken = output.taken writer;
  held = output.held writer;
  write_failures = output.failures writer;
}

-- what was read, and the complete lines in it were answered
pub record AnswersComplete (s : Standing) (old new : Devices) : Type 0 where
  pub read : List ℕ
  pub has_read : old.left ≡ after_bytes read new.left
  pub converses : Converses s (complete_lines read) old.given new.given old.taken new.taken

-- what was read, and a prefix of the answers to the lines in it was written
pub record AnswersPrefix (s : Standing) (old new : Devices) : Type 0 where
  pub read : List ℕ
  pub has_read : old.left ≡ after_bytes read new.left
  pub breaks_off : BreaksOff s (lines read) old.given new.given old.taken new.taken

-- at least this number of bytes were read: one for each read
pub record ReadsAtLeast (count : ℕ) (left left' : Option (List ℕ)) : Type 0 where
  pub read : List ℕ
  pub has_read : left ≡ after_bytes read left'
  pub many : count ≤ length read

-- the count of failed reads after a run: one more where it ended by one
abbrev pub read_failures_after : {T : Type 0} → Result T RunError → ℕ → ℕ
read_failures_after (Err Read) old = old + 1
read_failures_after _ old = old

-- the count of failed writes and flushes after a run: one more where it ended by one
abbrev pub write_failures_after : {T : Type 0} → Result T RunError → ℕ → ℕ
write_failures_after (Err Write) old = old + 1
write_failures_after _ old = old

-- This number of reads were made. They gave at least as many bytes, and no end.
pub record FoundNoEnd (limit : ℕ) (old new : Devices) : Type 0 where
  pub all_pulls : new.pulls ≡ old.pulls + limit
  pub many_bytes : ReadsAtLeast limit old.left new.left
  pub no_end : new.ends ≡ old.ends

-- What a run of at most this number of reads does to its devices. It meets the end at most once, and returns
-- `Endless` only if it met none. A fault of a device is counted once, if it ended the run. If the writer
-- doesn't fail and held nothing back at the start, it holds nothing back.
pub record RunsOn {T : Type 0} (limit : ℕ) (result : Result T RunError) (old new : Devices) : Type 0 where
  pub pulls : new.pulls ≤ old.pulls + limit
  pub one_end : new.ends ≤ old.ends + 1
  pub endless : IsErrOf result Endless → FoundNoEnd limit old new
  pub read_failures : new.read_failures ≡ read_failures_after result old.read_failures
  pub write_failures : new.write_failures ≡ write_failures_after result old.write_failures
  pub held : result ≢ Err Write → old.held ≡ 0 → new.held ≡ 0

-- How a run of at most this number of reads ends that begins with this standing. `Ok`: it answered all lines
-- up to `quit`. `Read` and `Endless`: it answered the complete lines. `Write`: a prefix of the answers was
-- written.
pub record Runs {T : Type 0} (limit : ℕ) (start : Standing) (result : Result T RunError) (old new : Devices) : Type 0
  where
    pub ok : OnOk result (IfSome old.left
        (λ bytes. Converses start (lines bytes) old.given new.given old.taken new.taken))
    pub ended : IsErrOf result Read ⊎ IsErrOf result Endless → AnswersComplete start old new
    pub write : IsErrOf result Write → AnswersPrefix start old new
    pub devices : RunsOn limit result old new

abbrev pub run_error_text : RunError → List ℕ
run_error_text Read = codes "read fault"
run_error_text Write = codes "write fault"
run_error_text Endless = codes "input without end"
