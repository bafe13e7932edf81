use Rattle.std.proofs.Common.{rules}
use Rattle.go_game.proofs.game.Game.set_komi.Goals as goal

pub returns-clause-komi : goal.returns-clause-komi
returns-clause-komi g c = search rules

pub returns-clause-others : goal.returns-clause-others
returns-clause-others g c = search rules
