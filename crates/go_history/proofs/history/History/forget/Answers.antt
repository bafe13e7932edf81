use Rattle.std.proofs.Common.{◌∙◌, cond, None, ap, rules}
use Rattle.go_history.specs.Keys.{key_eq}
use Rattle.go_history.specs.Histories.{HistoryValue, later_at}
use Rattle.go_history.proofs.Noting.{changed, forgotten, none_further}
use Rattle.go_history.proofs.history.History.forget.Goals as goal

pub returns-then-not-is_empty : goal.returns-then-not-is_empty
returns-then-not-is_empty g c = (
  ap (λ (v : HistoryValue). v.start) c.self.view_is,
  λ q. forgotten c.self.inside.first.entries c.remove.new.self.entries c.self.inside.further
      c.remove-then-not-is_empty.new.self c.args.key.now
      (changed c.self.inside.first.entries c.remove.new.self.entries c.args.key.now None c.remove.ensures.updates.0)
      c.remove-then-not-is_empty.ensures q
      ∙ ap (λ (v : HistoryValue). cond (key_eq c.args.key.now q) None (later_at v q)) c.self.view_is,
)

pub returns-else-not-is_empty : goal.returns-else-not-is_empty
returns-else-not-is_empty g c = (
  ap (λ (v : HistoryValue). v.start) c.self.view_is,
  λ q. forgotten c.self.inside.first.entries c.remove.new.self.entries c.self.inside.further c.self.inside.further
      c.args.key.now
      (changed c.self.inside.first.entries c.remove.new.self.entries c.args.key.now None c.remove.ensures.updates.0)
      (none_further c.self.inside.further c.args.key.now (search rules)) q
      ∙ ap (λ (v : HistoryValue). cond (key_eq c.args.key.now q) None (later_at v q)) c.self.view_is,
)
