use Rattle.std.proofs.Common.{rules}
use Rattle.go_sgf.proofs.laws.limits.Goals as goal

pub returns-clause-bytes : goal.returns-clause-bytes
returns-clause-bytes c = search rules

pub returns-clause-depth : goal.returns-clause-depth
returns-clause-depth c = search rules
