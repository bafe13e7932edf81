use Rattle.std.proofs.Common.{rules}
use Rattle.go_board.proofs.point_set.PointsIterator.next.Goals as goal

pub returns-clause-steps : goal.returns-clause-steps
returns-clause-steps c = search rules
