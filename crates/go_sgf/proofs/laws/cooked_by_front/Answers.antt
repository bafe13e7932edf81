use Rattle.go_sgf.proofs.Prefixed.{cooked_by_front}
use Rattle.go_sgf.proofs.laws.cooked_by_front.Goals as goal

pub returns : goal.returns
returns c = cooked_by_front
