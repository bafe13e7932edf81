use Rattle.go_record.proofs.writer.put_point.Goals as goal

pub returns : goal.returns
returns g c = rw c.lines.ensures.value at c.put.ensures
