use Rattle.std.proofs.Common.{rules}
use Rattle.go_board.specs.lemmas.Writing.{finished_pen}
use Rattle.goref_session.proofs.answer.write_answer.Goals as goal

pub returns-clause-sent : goal.returns-clause-sent
returns-clause-sent g c = (finished_pen c.put_answer.ensures c.new-pen.ensures.fresh c.new-pen.ensures.writer
    (search rules) c.finish.result c.finish.ensures.value).0

pub returns-clause-failures : goal.returns-clause-failures
returns-clause-failures g c = (finished_pen c.put_answer.ensures c.new-pen.ensures.fresh c.new-pen.ensures.writer
    (search rules) c.finish.result c.finish.ensures.value).1
