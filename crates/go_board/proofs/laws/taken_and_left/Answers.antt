use Rattle.go_board.proofs.Leaving.{stones-placed-le, taken_and_left}
use Rattle.go_board.proofs.laws.taken_and_left.Goals as goal

pub returns : goal.returns
returns c = record { together = taken_and_left; placed = stones-placed-le }
