use Rattle.go_board.specs.lemmas.Writing.{writes_writes}
use Rattle.goref_results.proofs.diagram.put_row.Goals as goal

pub returns : goal.returns
returns g c = writes_writes c.put.ensures
    (writes_writes (rw c.from.ensures at c.put_right_in_two.ensures) c.put_marks.ensures)
