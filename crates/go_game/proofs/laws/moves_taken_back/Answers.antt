use Rattle.go_game.proofs.TakenBack.{taken_back}
use Rattle.go_game.proofs.laws.moves_taken_back.Goals as goal

pub returns : goal.returns
returns c = taken_back
