use Rattle.std.proofs.lemmas.Result.{err_from_is_err_and}
use Rattle.goref_session.proofs.second.Second.load.Goals as goal
use Rattle.goref_session.proofs.second.Second.load.Goals.{then-self+in_ok-load_into, else-self+in_ok-load_into-2}

pub returns-in_err-load_into-clause-decides : goal.returns-in_err-load_into-clause-decides
returns-in_err-load_into-clause-decides g c = λ s e.
    let p = err_from_is_err_and c.from_residual.result c.from_residual.ensures.1 in
    rw (p.1, p.2) (c.in_err-load_into.ensures s)

pub returns-in_err-load_into-2-clause-decides : goal.returns-in_err-load_into-2-clause-decides
returns-in_err-load_into-2-clause-decides g c = λ s e.
    let p = err_from_is_err_and c.from_residual-in_err-load_into-2.result c.from_residual-in_err-load_into-2.ensures.1 in
    rw (p.1, p.2) (c.in_err-load_into-2.ensures s)

pub returns-clause-decides : goal.returns-clause-decides
returns-clause-decides g c = λ s e. elim c.if-self.branch [
  | then-self+in_ok-load_into w ↦ rw (w.self-is, w.first-is, w.if-self.true) (w.in_ok-load_into.ensures s)
  | else-self+in_ok-load_into-2 w ↦ rw (w.self-is, w.first-is, w.if-self.false) (w.in_ok-load_into-2.ensures s)
]
