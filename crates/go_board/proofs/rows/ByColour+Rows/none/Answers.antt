use Rattle.std.proofs.Common.{rules}
use Rattle.go_board.proofs.rows.ByColour+Rows.none.Goals as goal

pub returns-clause-black : goal.returns-clause-black
returns-clause-black c = search rules
