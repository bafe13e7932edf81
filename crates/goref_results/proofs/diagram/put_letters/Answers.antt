use Rattle.go_board.specs.lemmas.Writing.{writes_writes}
use Rattle.goref_results.proofs.diagram.put_letters.Goals as goal

pub returns : goal.returns
returns g c = writes_writes c.put.ensures
    (rw (c.split_at.ensures.front, c.from.ensures, c.lines.ensures.value) at c.put_columns.ensures)
