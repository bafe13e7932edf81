use Rattle.std.proofs.Common.{rules}
use Rattle.goref_tools.proofs.error.ToolErrorDisplay.fmt.Goals as goal

pub returns-in-Record-clause-writes : goal.returns-in-Record-clause-writes
returns-in-Record-clause-writes g c = search rules
