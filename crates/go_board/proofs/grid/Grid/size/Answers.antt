use Rattle.std.proofs.Common.{rules}
use Rattle.go_board.proofs.grid.Grid.size.Goals as goal

pub returns-clause-lines : goal.returns-clause-lines
returns-clause-lines c = search rules
