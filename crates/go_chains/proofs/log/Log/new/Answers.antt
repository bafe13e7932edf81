use Rattle.std.proofs.Common.{rules}
use Rattle.go_chains.proofs.log.Log.new.Goals as goal

pub returns : goal.returns
returns g c = search rules
