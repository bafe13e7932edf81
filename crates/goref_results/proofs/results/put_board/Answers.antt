use Rattle.go_board.specs.lemmas.Writing.{writes_writes}
use Rattle.goref_results.proofs.results.put_board.Goals as goal

pub returns : goal.returns
returns g c = writes_writes c.put.ensures c.put_diagram.ensures
