use Rattle.go_game.proofs.Legal.{legal_is}
use Rattle.go_game.proofs.laws.legal_by_the_rules.Goals as goal

pub returns : goal.returns
returns c = legal_is
