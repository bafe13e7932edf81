use Rattle.std.proofs.Common.{rules}
use Rattle.go_board.specs.lemmas.Writing.{writes_writes, finished_pen}
use Rattle.go_record.proofs.writer.write_record.Goals as goal

pub returns-clause-sent : goal.returns-clause-sent
returns-clause-sent g c =
    (finished_pen (writes_writes c.put_record.ensures c.put.ensures) c.new-pen.ensures.fresh c.new-pen.ensures.writer
    (search rules) c.finish.result c.finish.ensures.value).0

pub returns-clause-failures : goal.returns-clause-failures
returns-clause-failures g c =
    (finished_pen (writes_writes c.put_record.ensures c.put.ensures) c.new-pen.ensures.fresh c.new-pen.ensures.writer
    (search rules) c.finish.result c.finish.ensures.value).1
