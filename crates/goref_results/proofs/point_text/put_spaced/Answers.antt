use Rattle.go_board.specs.lemmas.Writing.{writes_writes}
use Rattle.goref_results.proofs.point_text.put_spaced.Goals as goal

pub returns : goal.returns
returns g c = writes_writes c.put.ensures
    (rw (c.as_slice.ensures.value, c.letter_and_number.ensures) at c.put-2.ensures)
