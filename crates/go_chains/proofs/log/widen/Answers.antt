use Rattle.std.proofs.Common.{rules}
use Rattle.go_chains.proofs.log.widen.Goals as goal

pub returns-clause-changes : goal.returns-clause-changes
returns-clause-changes g c = search rules
