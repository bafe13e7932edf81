use Rattle.go_game.proofs.Rules.{positional_rule}
use Rattle.go_game.proofs.laws.positional_by_positions.Goals as goal

pub returns : goal.returns
returns c = positional_rule
