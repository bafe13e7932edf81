use Rattle.std.proofs.Common.{refl}
use Rattle.go_history.proofs.Noting.{nothing}
use Rattle.go_history.proofs.history.History.restart.Goals as goal

pub returns-then-capacity-gt-KEPT_KEYS : goal.returns-then-capacity-gt-KEPT_KEYS
returns-then-capacity-gt-KEPT_KEYS g c = (
  refl,
  nothing c.new-then-capacity-gt-KEPT_KEYS.result.entries c.new.result
      c.new-then-capacity-gt-KEPT_KEYS.ensures.empty c.new.ensures,
)

pub returns-else-capacity-gt-KEPT_KEYS : goal.returns-else-capacity-gt-KEPT_KEYS
returns-else-capacity-gt-KEPT_KEYS g c =
    (refl, nothing c.clear.new.self.entries c.new.result c.clear.ensures.empty c.new.ensures)
