use Rattle.go_sgf.proofs.KomiWords.{komi_is_spelled}
use Rattle.go_sgf.proofs.laws.komi_is_spelled.Goals as goal

pub returns : goal.returns
returns c = komi_is_spelled
