use Rattle.go_board.proofs.Deciding.{liberty_is}
use Rattle.go_board.proofs.laws.liberty_by_a_path.Goals as goal

pub returns : goal.returns
returns c = liberty_is
