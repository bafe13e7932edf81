use Rattle.go_board.specs.lemmas.Writing.{writes_writes}
use Rattle.go_record.proofs.writer.put_turn.Goals as goal

pub returns : goal.returns
returns g c = writes_writes c.put.ensures
    (writes_writes (rw (c.letter.ensures, c.start_mover.ensures) at c.put-2.ensures) c.put-3.ensures)
