use Rattle.std.proofs.Common.{rules}
use Rattle.go_board.proofs.point.Point.row.Goals as goal

pub returns : goal.returns
returns c = search rules
