use Rattle.std.proofs.Common.{rules}
use Rattle.go_record.proofs.error.RecordErrorDisplay.fmt.Goals as goal

pub returns-in-DeadSetup-clause-writes : goal.returns-in-DeadSetup-clause-writes
returns-in-DeadSetup-clause-writes g c = search rules
