use Rattle.std.proofs.Common.{rules}
use Rattle.go_game.proofs.handicap.greatest_handicap.Goals as goal

pub returns-else-lines-eq0 : goal.returns-else-lines-eq0
returns-else-lines-eq0 c = search rules
