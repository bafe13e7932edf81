use Rattle.std.proofs.Common.{arith}
use Rattle.std.proofs.lemmas.Grind.{common_steps}
use Rattle.go_game.proofs.game.Game.move_count.Goals as goal

pub returns : goal.returns
returns g c = grind (arith, common_steps)
