use Rattle.go_board.proofs.Deciding.{joined_is}
use Rattle.go_board.proofs.laws.joined_by_a_path.Goals as goal

pub returns : goal.returns
returns c = joined_is
