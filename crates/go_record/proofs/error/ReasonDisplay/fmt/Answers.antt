use Rattle.std.proofs.Common.{rules}
use Rattle.go_record.proofs.error.ReasonDisplay.fmt.Goals as goal

pub returns-in-Repeats-clause-writes : goal.returns-in-Repeats-clause-writes
returns-in-Repeats-clause-writes g c = search rules
