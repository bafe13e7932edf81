use Rattle.std.proofs.Common.{rules}
use Rattle.go_board.proofs.laws.limits.Goals as goal

pub returns-clause-komi : goal.returns-clause-komi
returns-clause-komi c = search rules

pub returns-clause-lines : goal.returns-clause-lines
returns-clause-lines c = search rules

pub returns-clause-points : goal.returns-clause-points
returns-clause-points c = search rules

pub returns-clause-rows : goal.returns-clause-rows
returns-clause-rows c = search rules

pub returns-clause-int : goal.returns-clause-int
returns-clause-int c = search rules
