use Rattle.std.proofs.Common.{rules}
use Rattle.goref.proofs.laws.limits.Goals as goal

pub returns : goal.returns
returns c = search rules
