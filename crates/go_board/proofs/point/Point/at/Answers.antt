use Rattle.std.proofs.Common.{rules}
use Rattle.go_board.proofs.point.Point.at.Goals as goal

pub returns-then-on-clause-value : goal.returns-then-on-clause-value
returns-then-on-clause-value c = search rules
