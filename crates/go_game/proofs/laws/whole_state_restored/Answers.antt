use Rattle.std.proofs.Common.{ap}
use Rattle.go_game.specs.Whole.{whole_of}
use Rattle.go_game.proofs.TakenBack.{taken_back}
use Rattle.go_game.proofs.laws.whole_state_restored.Goals as goal

pub returns : goal.returns
returns c s moves = ap whole_of (taken_back s moves)
