use Rattle.std.proofs.Common.{arith}
use Rattle.std.proofs.lemmas.Grind.{common_steps}
use Rattle.go_chains.proofs.masks.has_liberty_but.Goals as goal

pub returns-then-has_liberty_in-clause-other : goal.returns-then-has_liberty_in-clause-other
returns-then-has_liberty_in-clause-other g c = grind (arith, common_steps)

pub returns-then-has_liberty_in-2-clause-other : goal.returns-then-has_liberty_in-2-clause-other
returns-then-has_liberty_in-2-clause-other g c = grind (arith, common_steps)
