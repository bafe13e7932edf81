use Rattle.std.proofs.Common.{rules}
use Rattle.go_board.proofs.point_set.PointSet.points.Goals as goal

pub returns : goal.returns
returns c = search rules
