use Rattle.std.proofs.Common.{rules}
use Rattle.go_game.proofs.game.Game.clear.Goals as goal

pub returns-clause-start : goal.returns-clause-start
returns-clause-start g c = search rules

pub returns-clause-writes : goal.returns-clause-writes
returns-clause-writes g c = search rules
