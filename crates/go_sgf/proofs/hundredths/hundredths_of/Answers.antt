use Rattle.std.proofs.Common.{rules}
use Rattle.go_sgf.proofs.hundredths.hundredths_of.Goals as goal

pub returns-clause-value : goal.returns-clause-value
returns-clause-value c = search rules
