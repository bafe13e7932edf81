use Rattle.std.proofs.Common.{refl}
use Rattle.go_history.proofs.Noting.{nothing}
use Rattle.go_history.proofs.history.History.new.Goals as goal

pub returns : goal.returns
returns g c = (refl, nothing c.new.result.entries c.new-2.result c.new.ensures.empty c.new-2.ensures)
