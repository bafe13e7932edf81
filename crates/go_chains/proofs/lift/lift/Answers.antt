use Rattle.std.proofs.Common.{arith, ℕ, sym, subst, List}
use Rattle.go_board.specs.lemmas.Squares.{square-le}
use Rattle.go_chains.specs.inner.Beside.{AreBeside}
use Rattle.go_chains.proofs.writes.Lifting.{IsLifted_given}
use Rattle.go_chains.proofs.writes.Editing.{Edited_then}
use Rattle.go_chains.proofs.lift.lift.Goals as goal

pub returns-clause-lifted : goal.returns-clause-lifted
returns-clause-lifted g c =
    let n = c.args.size in
    let P : List ℕ → Type 0 = λ xs. AreBeside n c.args.point xs in
    let Q : ℕ → Type 0 = λ k. AreBeside n k c.put_beside.new.numbers.items in
    IsLifted_given n c.args.cells.now.numbers c.replace.new.cells.numbers c.give_back.new.cells.numbers c.args.point
    c.args.freed_code c.as_slice.result.now (square-le n (omega arith)) c.requires.point
    (subst P (sym c.as_slice.ensures.value) (subst Q c.numbered.ensures.back c.put_beside.ensures))
    c.replace.ensures.written c.give_back.ensures.given

pub returns-clause-edited : goal.returns-clause-edited
returns-clause-edited g c = Edited_then c.replace.ensures.edited c.give_back.ensures.edited (omega arith) (omega arith)
    (omega arith)
