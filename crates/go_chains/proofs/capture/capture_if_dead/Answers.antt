use Rattle.std.proofs.Common.{arith, true≢false, ◌≡◌, ◌*◌, ℕ, sym, ◌∙◌, subst}
use Rattle.go_board.specs.Paths.{IsAdjacent}
use Rattle.go_chains.specs.Cells.{code_at, label_of, lib_of}
use Rattle.go_chains.specs.inner.Steps.{CountsTaken}
use Rattle.go_chains.specs.inner.Quiet.{HasLibertyBut}
use Rattle.go_chains.specs.inner.Tables.{IsStone, tables_of}
use Rattle.go_chains.proofs.answers.Dead.{none_but_its_own}
use Rattle.go_chains.proofs.tables.Capturing.{IsCapturing_more}
use Rattle.go_chains.proofs.writes.Editing.{Edited_none}
use Rattle.go_board.specs.lemmas.Paths.{flip}
use Rattle.go_chains.proofs.writes.Neighbours.{inside}
use Rattle.go_chains.proofs.writes.Bounds.{label_small, size_small}
use Rattle.go_chains.proofs.tables.Taking.{counts_ring}
use Rattle.go_chains.proofs.capture.capture_if_dead.Goals as goal

pub has_liberty_but-requires-clause-label : goal.has_liberty_but-requires-clause-label
has_liberty_but-requires-clause-label g c =
    let n = c.args.size in
    let old = c.args.cells.now.numbers in
    let is : code_at old c.args.point ≡ c.args.captured_code = sym c.get.ensures.value ∙ c.if-get-captured_code.false in
    let some = c.requires.colours.taken_some in
    let stone : IsStone (n * n) (tables_of old) c.args.point = (c.requires.point, omega arith) in
    let h = label_small n (IsAdjacent n) (tables_of old) (omega arith) c.requires.tidy c.args.point stone in
    let e = c.get-label.ensures.value in omega arith

pub take_off-requires-clause-rest : goal.take_off-requires-clause-rest
take_off-requires-clause-rest g c = c.requires.colours.rest_some

pub take_off-requires-clause-apart : goal.take_off-requires-clause-apart
take_off-requires-clause-apart g c = c.requires.colours.apart

pub take_off-requires-clause-two : goal.take_off-requires-clause-two
take_off-requires-clause-two g c = c.requires.colours.two

pub returns-then-has_liberty_but-clause-edited : goal.returns-then-has_liberty_but-clause-edited
returns-then-has_liberty_but-clause-edited g c = Edited_none (omega arith) (omega arith)

pub returns-then-has_liberty_but-clause-gone : goal.returns-then-has_liberty_but-clause-gone
returns-then-has_liberty_but-clause-gone g c is dead =
    let other = c.has_liberty_but.ensures.other.0 c.if-has_liberty_but.true in
    absurd (dead other.0 other.1 (subst (λ l. lib_of c.args.cells.now.numbers l other.0 ≡ 1)
    c.get-label.ensures.value other.3))

pub returns-clause-capturing : goal.returns-clause-capturing
returns-clause-capturing g c t tidy capturing =
    let n = c.args.size in
    let old = c.args.cells.now.numbers in
    let is : code_at old c.args.point ≡ c.args.captured_code = sym c.get.ensures.value ∙ c.if-get-captured_code.false in
    let some = c.requires.colours.taken_some in
    let stone : IsStone (n * n) (tables_of old) c.args.point = (c.requires.point, omega arith) in
    let none : HasLibertyBut n old c.args.point (label_of old c.args.point) → ⊥ = λ other.
    true≢false (sym (c.has_liberty_but.ensures.other.1
    (subst (λ l. HasLibertyBut n old c.args.point l) (sym c.get-label.ensures.value) other))
    ∙ c.if-has_liberty_but.false) in
    IsCapturing_more (n * n) (IsAdjacent n) (flip n) (inside n) t (tables_of old)
    (tables_of c.take_off.new.cells.numbers) c.args.captured_code c.args.point tidy capturing c.take_off.ensures.removed is
    c.requires.colours.taken_some
    (none_but_its_own n old c.args.point c.requires.tidy stone none)

pub returns-clause-stones : goal.returns-clause-stones
returns-clause-stones g c =
    let n = c.args.size in
    let old = c.args.cells.now.numbers in
    let is : code_at old c.args.point ≡ c.args.captured_code = sym c.get.ensures.value ∙ c.if-get-captured_code.false in
    let P : ℕ → Type 0 = λ k. CountsTaken (n * n) (tables_of old) (tables_of c.take_off.new.cells.numbers) c.args.captured_code
    k in
    subst P (sym c.take_off.ensures.stones)
    (counts_ring (n * n) (IsAdjacent n) (tables_of old) (tables_of c.take_off.new.cells.numbers) c.args.point
    c.args.captured_code c.requires.tidy c.take_off.ensures.removed is c.requires.colours.taken_some)

pub returns-clause-few : goal.returns-clause-few
returns-clause-few g c =
    let n = c.args.size in
    let old = c.args.cells.now.numbers in
    let h = size_small n (IsAdjacent n) (tables_of old) (omega arith) c.requires.tidy c.args.point
    c.take_off.ensures.removed.stone in
    let e = c.take_off.ensures.stones in omega arith
