-- What a run did, from what was read of the input.
use Rattle.std.proofs.Common.{◌≡◌, ◌∙◌, ◌+◌, ◌++◌, ◌≤◌, ℕ, List, [], Bool, true, false, IfSome, OnOk, Option, None, Some, Result, Ok, Err, refl, ap, rules, subst, sym}
use Rattle.std.proofs.lemmas.Bool.{ne_eqb}
use Rattle.std.proofs.lemmas.List.{append-nil}
use Rattle.go_board.specs.Device.{after_bytes, ends_after}
use Rattle.go_game.specs.Standings.{Standing}
use Rattle.goref_lines.specs.Kept.{Kept}
use Rattle.goref.specs.Lines.{lines}
use Rattle.goref.specs.Conversation.{BreaksOff, Converses}
use Rattle.goref.specs.inner.Progress.{Progress}
use Rattle.goref.specs.Runs.{AnswersComplete, AnswersPrefix, Devices, Runs}
use Rattle.goref.specs.declared.error.RunError.{RunError}
use Rattle.goref.specs.declared.error.RunError.TheVariants.{Write}
use Rattle.goref.specs.lemmas.Conversations.{so_far}

-- the complete lines of what was read are answered
pub answers_complete : {s now : Standing} {read : List ℕ} {line : Kept} {old new : Devices} →
    old.left ≡ after_bytes read new.left → Progress s read line now old.given new.given old.taken new.taken →
    AnswersComplete s old new
answers_complete {s} {now} {read} e p = record {
  read = read;
  has_read = e;
  converses = so_far p.goes_on;
}

pub answers_prefix : {s : Standing} {old new : Devices} (read : List ℕ) →
    old.left ≡ after_bytes read new.left → BreaksOff s (lines read) old.given new.given old.taken new.taken →
    AnswersPrefix s old new
answers_prefix read e b = record { read = read; has_read = e; breaks_off = b }

-- what a run shows that answered all lines up to `quit`
pub ends_ok : {T : Type 0} (x : T) (limit : ℕ) (s : Standing) (old new : Devices) →
    IfSome old.left (λ bytes. Converses s (lines bytes) old.given new.given old.taken new.taken) →
    new.pulls ≤ old.pulls + limit → new.ends ≤ old.ends + 1 → new.read_failures ≡ old.read_failures →
    new.write_failures ≡ old.write_failures → (old.held ≡ 0 → new.held ≡ 0) → Runs limit s (Ok x) old new
ends_ok x limit s old new answered pulls ends reads writes held = record {
  ok = answered;
  ended = search rules;
  write = search rules;
  devices = record {
    pulls = pulls;
    one_end = ends;
    endless = search rules;
    read_failures = reads;
    write_failures = writes;
    held = λ _. held;
  };
}

-- what a run shows whose writer failed
pub ends_by_write : {T : Type 0} (limit : ℕ) (s : Standing) (old new : Devices) → AnswersPrefix s old new →
    new.pulls ≤ old.pulls + limit → new.ends ≤ old.ends + 1 → new.read_failures ≡ old.read_failures →
    new.write_failures ≡ old.write_failures + 1 →
    (let end : Result T RunError = Err Write in Runs limit s end old new)
ends_by_write limit s old new answered pulls ends reads writes = record {
  ok = tt;
  ended = search rules;
  write = λ _. answered;
  devices = record {
    pulls = pulls;
    one_end = ends;
    endless = search rules;
    read_failures = reads;
    write_failures = writes;
    held = search rules;
  };
}

-- what holds of what was read holds of the input, where that has ended
pub of_ended : (P : List ℕ → Type 0) (read : List ℕ) {left : Option (List ℕ)} (left' : Option (List ℕ)) →
    left ≡ after_bytes read left' →
    IfSome left' (λ xs. xs ≡ []) → P read → IfSome left P
of_ended P read {left} None e f h = let Q : Option (List ℕ) → Type 0 = λ o. IfSome o P in subst Q (sym e) tt
of_ended P read {left} (Some more) e f h =
    let Q : Option (List ℕ) → Type 0 = λ o. IfSome o P in
    subst Q (sym e) (subst P (sym (append-nil read) ∙ ap (λ xs. read ++ xs) (sym f)) h)

-- a read that gave some bytes found no end
pub no_end_found : (E : Type 0) (n len old : ℕ) → (n ≡ 0 → ⊥) →
    (let given : Result ℕ E = Ok n in ends_after given len old ≡ old)
no_end_found E n len old some = rw (ne_eqb n 0 some) refl

-- a line was answered and flushed, or has no words: where nothing was held back before, nothing is then
pub none_held : {T E : Type 0} (words : Bool) (r : Result T E) (before between after : ℕ) →
    (words ≡ false → between ≡ before) →
    OnOk r (words ≡ true → after ≡ 0) → (words ≡ false → after ≡ between) → OnOk r (before ≡ 0 → after ≡ 0)
none_held true (Ok x) before between after silent passed same = λ none. passed refl
none_held false (Ok x) before between after silent passed same = λ none. same refl ∙ silent refl ∙ none
none_held words (Err e) before between after silent passed same = tt
