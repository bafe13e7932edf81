use Rattle.go_board.proofs.Clearing.{vanished-le}
use Rattle.go_board.proofs.laws.vanished_at_most_all.Goals as goal

pub returns : goal.returns
returns c = vanished-le
