-- How pieces that are written one after the other make up a text.
use Rattle.std.specs.Prelude.{◌≡◌, ℕ, List, [], ◌++◌, Option, Some, None, Bool, true, false, if◌then◌else◌, refl, Result, Ok, Err}
use Rattle.std.proofs.Common.{sym, ap, subst, append_assoc, ◌∙◌}
use Rattle.std.proofs.lemmas.List.{append-nil}
use Rattle.go_board.specs.Device.{then_bytes, Sent, failures_after}
use Rattle.go_board.specs.Pens.{Wrote, Place, place, Adds, Writes, place_of}
use Rattle.go_board.specs.declared.device.Sink.{Ghosts}
use Rattle.go_board.specs.declared.device.WriteFault.{WriteFault}
use Rattle.go_board.specs.declared.pen.Pen.{Pen}

pub then_bytes-then_bytes : (o : Option (List ℕ)) (a b : List ℕ) → then_bytes (then_bytes o a) b ≡ then_bytes o (a ++ b)
then_bytes-then_bytes None a b = refl
then_bytes-then_bytes (Some xs) a b = ap Some (append_assoc xs a b)

pub then_bytes-nil : (o : Option (List ℕ)) → then_bytes o [] ≡ o
then_bytes-nil None = refl
then_bytes-nil (Some xs) = ap Some (append-nil xs)

-- two pieces
pub adds_adds : {old mid new : Place} {first more : List ℕ} → Adds old mid first → Adds mid new more →
    Adds old new (first ++ more)
adds_adds {old} {mid} {new} {first} {more} a b = record {
  grown = λ start n text w.
      let P : List ℕ → Type 0 = λ xs. Wrote new.has_failed start new.taken n new.failures xs in
      subst P (append_assoc text first more) (b.grown start n (text ++ first) (a.grown start n text w));
}

-- two pieces that make up a text
pub adds_then : {old mid new : Place} {first more : List ℕ} (whole : List ℕ) → Adds old mid first → Adds mid new more →
    first ++ more ≡ whole → Adds old new whole
adds_then {old} {mid} {new} whole a b e =
    let P : List ℕ → Type 0 = λ xs. Adds old new xs in
    subst P e (adds_adds a b)

-- no piece
pub adds_nothing : (p : Place) → Adds p p []
adds_nothing p = record {
  grown = λ start n text w.
      let P : List ℕ → Type 0 = λ xs. Wrote p.has_failed start p.taken n p.failures xs in
      subst P (sym (append-nil text)) w;
}

-- a fresh pen has written nothing
pub wrote_nothing : (taken : Option (List ℕ)) (failures : ℕ) → Wrote false taken taken failures failures []
wrote_nothing taken failures = record { took = sym (then_bytes-nil taken); counted = refl }

-- what a fresh pen wrote until it was finished
pub wrote : {has_failed : Bool} {taken taken' : Option (List ℕ)} {failures failures' : ℕ} {text : List ℕ} →
    Adds (place false taken failures) (place has_failed taken' failures') text →
    Wrote has_failed taken taken' failures failures' text
wrote {has_failed} {taken} {taken'} {failures} {failures'} {text} a =
    a.grown taken failures [] (wrote_nothing taken failures)

-- what finishing a pen says of the text
pub finished : (has_failed : Bool) {taken taken' : Option (List ℕ)} {failures failures' : ℕ} {text : List ℕ} →
    Adds (place false taken failures) (place has_failed taken' failures') text →
    (r : Result Unit WriteFault) → r ≡ (if has_failed then Err record {} else Ok tt) →
    Sent r taken taken' text × (failures' ≡ failures_after r failures)
finished false {taken} {taken'} {failures} {failures'} {text} a r e =
    let P : Result Unit WriteFault → Type 0 = λ x. Sent x taken taken' text × (failures' ≡ failures_after x failures) in
    let w = wrote a in subst P (sym e) (w.took, w.counted)
finished true {taken} {taken'} {failures} {failures'} {text} a r e =
    let P : Result Unit WriteFault → Type 0 = λ x. Sent x taken taken' text × (failures' ≡ failures_after x failures) in
    let w = wrote a in subst P (sym e) (w.took, w.counted)

-- a pen that wrote nothing
pub writes_nothing : {S : Type 0} (sink : Ghosts S) (pen : Pen S) → Writes sink pen pen []
writes_nothing sink pen = record { same = refl; adds = adds_nothing (place_of sink pen) }

-- two pieces by a pen
pub writes_writes : {S : Type 0} {sink : Ghosts S} {old mid new : Pen S} {first more : List ℕ} →
    Writes sink old mid first → Writes sink mid new more → Writes sink old new (first ++ more)
writes_writes a b = record { same = b.same ∙ a.same; adds = adds_adds a.adds b.adds }

-- two pieces by a pen that make up a text
pub writes_then : {S : Type 0} {sink : Ghosts S} {old mid new : Pen S} {first more : List ℕ} (whole : List ℕ) →
    Writes sink old mid first → Writes sink mid new more → first ++ more ≡ whole → Writes sink old new whole
writes_then whole a b e = record { same = b.same ∙ a.same; adds = adds_then whole a.adds b.adds e }

-- what finishing a pen says of the text that it wrote to a device
pub finished_pen : {S : Type 0} {sink : Ghosts S} {fresh last : Pen S} {device device' : S} {text : List ℕ} →
    Writes sink fresh last text → fresh.has_failed ≡ false → fresh.writer.now ≡ device → device' ≡ last.writer.now →
    (r : Result Unit WriteFault) → r ≡ (if last.has_failed then Err record {} else Ok tt) →
    Sent r (sink.taken device) (sink.taken device') text
    × (sink.failures device' ≡ failures_after r (sink.failures device))
finished_pen {sink = sink} {last = last} {text = text} w unfailed from to r e =
    rw (← from, to) (finished last.has_failed (rw unfailed at w.adds) r e)
