use Rattle.std.proofs.Common.{rules}
use Rattle.go_sgf.proofs.error.SgfErrorDisplay.fmt.Goals as goal

pub returns-in-TooDeep-clause-writes : goal.returns-in-TooDeep-clause-writes
returns-in-TooDeep-clause-writes g c = search rules
