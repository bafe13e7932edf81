use Rattle.go_game.proofs.Costs.{costs}
use Rattle.go_game.proofs.laws.costs_of_a_turn.Goals as goal

pub returns : goal.returns
returns c = costs
