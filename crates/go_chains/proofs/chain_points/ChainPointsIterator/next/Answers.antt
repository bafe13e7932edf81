use Rattle.std.proofs.Common.{rules}
use Rattle.go_chains.proofs.chain_points.ChainPointsIterator.next.Goals as goal

pub returns-clause-steps : goal.returns-clause-steps
returns-clause-steps c = search rules
