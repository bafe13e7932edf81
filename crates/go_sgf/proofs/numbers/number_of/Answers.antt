use Rattle.std.proofs.Common.{rules}
use Rattle.go_sgf.proofs.numbers.number_of.Goals as goal

pub returns-in-Some-eq43-default-clause-value : goal.returns-in-Some-eq43-default-clause-value
returns-in-Some-eq43-default-clause-value c = search rules
