use Rattle.go_board.specs.lemmas.Writing.{writes_writes}
use Rattle.goref_tools.proofs.verdict_lines.put_line.Goals as goal

pub returns : goal.returns
returns g c = writes_writes c.put.ensures (writes_writes c.put-2.ensures c.put-3.ensures)
