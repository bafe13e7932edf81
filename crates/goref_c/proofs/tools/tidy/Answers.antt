use Rattle.std.proofs.Common.{rules}
use Rattle.goref_c.proofs.tools.tidy.Goals as goal

pub returns-clause-fault : goal.returns-clause-fault
returns-clause-fault g c = search rules

pub returns-in-Ok-tidy-clause-done : goal.returns-in-Ok-tidy-clause-done
returns-in-Ok-tidy-clause-done g c = search rules

pub returns-in-Err-clause-refused : goal.returns-in-Err-clause-refused
returns-in-Err-clause-refused g c = search rules
