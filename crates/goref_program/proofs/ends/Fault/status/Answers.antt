use Rattle.std.proofs.Common.{rules}
use Rattle.goref_program.proofs.ends.Fault.status.Goals as goal

pub returns-in-Run : goal.returns-in-Run
returns-in-Run c = search rules

pub returns-in-Tool : goal.returns-in-Tool
returns-in-Tool c = search rules
