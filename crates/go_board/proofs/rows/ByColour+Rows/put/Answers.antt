use Rattle.std.proofs.Common.{rules}
use Rattle.go_board.proofs.rows.ByColour+Rows.put.Goals as goal

pub returns-in-White : goal.returns-in-White
returns-in-White c = search rules
