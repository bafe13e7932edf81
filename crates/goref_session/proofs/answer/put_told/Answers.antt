use Rattle.go_board.specs.lemmas.Writing.{writes_writes}
use Rattle.goref_session.proofs.answer.put_told.Goals as goal

pub returns : goal.returns
returns g c = writes_writes c.put.ensures
    (writes_writes c.put_id.ensures (writes_writes c.put_fact.ensures c.put_end.ensures))
