use Rattle.std.proofs.Common.{rules}
use Rattle.go_chains.proofs.change.LoggedChange.of.Goals as goal

pub returns : goal.returns
returns c = search rules
