use Rattle.std.proofs.Common.{rules}
use Rattle.go_board.proofs.grid.Grid.copy.Goals as goal

pub returns : goal.returns
returns c = search rules
