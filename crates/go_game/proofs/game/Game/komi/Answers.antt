use Rattle.std.proofs.Common.{rules}
use Rattle.go_game.proofs.game.Game.komi.Goals as goal

pub returns : goal.returns
returns g c = search rules
