use Rattle.std.proofs.Common.{rules}
use Rattle.goref_tools.proofs.flushing.flush.Goals as goal

pub returns-in-Err-clause-passed : goal.returns-in-Err-clause-passed
returns-in-Err-clause-passed g c = search rules
