use Rattle.go_board.specs.lemmas.Writing.{writes_writes}
use Rattle.go_record.proofs.writer.put_move.Goals as goal

pub returns-in-Pass : goal.returns-in-Pass
returns-in-Pass g c = rw c.in-Pass.is
    (writes_writes c.put.ensures (writes_writes (rw c.letter.ensures at c.put-2.ensures) c.put-in-Pass.ensures))

pub returns-in-At : goal.returns-in-At
returns-in-At g c = rw c.in-At.is
    (writes_writes c.put.ensures (writes_writes (rw c.letter.ensures at c.put-2.ensures) c.put_point.ensures))
