use Rattle.go_game.proofs.Rules.{situational_rule}
use Rattle.go_game.proofs.laws.situational_by_situations.Goals as goal

pub returns : goal.returns
returns c = situational_rule
