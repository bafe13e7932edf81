use Rattle.std.proofs.Common.{rules}
use Rattle.goref_c.proofs.tools.judge.Goals as goal

pub returns-in-Err-Read-clause-fault : goal.returns-in-Err-Read-clause-fault
returns-in-Err-Read-clause-fault g c = search rules

pub returns-in-Ok-clause-done : goal.returns-in-Ok-clause-done
returns-in-Ok-clause-done g c = search rules

pub returns : goal.returns
returns g c = search rules
