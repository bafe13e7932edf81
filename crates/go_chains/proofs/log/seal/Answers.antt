use Rattle.std.proofs.Common.{rules}
use Rattle.go_chains.proofs.log.seal.Goals as goal

pub returns : goal.returns
returns g c = search rules
