use Rattle.std.proofs.Common.{rules}
use Rattle.goref.proofs.error.RunErrorDisplay.fmt.Goals as goal

pub returns-in-Endless-clause-writes : goal.returns-in-Endless-clause-writes
returns-in-Endless-clause-writes g c = search rules
