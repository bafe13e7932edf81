use Rattle.go_board.specs.lemmas.Writing.{writes_writes}
use Rattle.goref_results.proofs.diagram.put_turn.Goals as goal

pub returns : goal.returns
returns g c =
    writes_writes c.put.ensures (writes_writes (rw c.move_count.ensures at c.put_number.ensures)
    (writes_writes c.put-2.ensures (rw (c.letter.ensures, c.mover.ensures) at c.put-3.ensures)))
