use Rattle.go_board.specs.lemmas.Writing.{writes_writes}
use Rattle.goref_results.proofs.diagram.put_prisoners.Goals as goal

pub returns : goal.returns
returns g c =
    writes_writes c.put.ensures (writes_writes (rw c.prisoners.ensures at c.put_number.ensures)
    (writes_writes c.put-2.ensures (rw c.prisoners-2.ensures at c.put_number-2.ensures)))
