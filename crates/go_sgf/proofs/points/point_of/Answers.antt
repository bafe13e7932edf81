use Rattle.std.proofs.Common.{rules}
use Rattle.go_sgf.proofs.points.point_of.Goals as goal

pub returns-in-None-clause-value : goal.returns-in-None-clause-value
returns-in-None-clause-value c = search rules
