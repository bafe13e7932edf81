use Rattle.std.proofs.Common.{rules}
use Rattle.go_game.proofs.game.Game.first_seen.Goals as goal

pub returns : goal.returns
returns g c = search rules
