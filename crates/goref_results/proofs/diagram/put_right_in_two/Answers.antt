use Rattle.go_board.specs.lemmas.Writing.{writes_writes}
use Rattle.goref_results.proofs.diagram.put_right_in_two.Goals as goal

pub returns : goal.returns
returns g c = writes_writes (rw c.padding.ensures at c.put.ensures) c.put_number.ensures
