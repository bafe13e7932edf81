use Rattle.std.proofs.Common.{rules}
use Rattle.go_board.proofs.plain.areas.Goals as goal

pub returns-clause-white : goal.returns-clause-white
returns-clause-white c = search rules
