use Rattle.go_board.specs.lemmas.Writing.{writes_writes}
use Rattle.goref_results.proofs.diagram.put_diagram.Goals as goal

pub returns : goal.returns
returns g c =
    writes_writes c.put_setting.ensures (writes_writes c.put_prisoners.ensures (writes_writes c.put_turn.ensures
    (writes_writes c.put_rows.ensures (rw c.size.ensures.lines at c.put_letters.ensures))))
