use Rattle.go_board.proofs.Deciding.{reaches_is}
use Rattle.go_board.proofs.laws.reaches_by_a_path.Goals as goal

pub returns : goal.returns
returns c = reaches_is
