use Rattle.std.proofs.Common.{◌∙◌, ◌++◌, ap, sym}
use Rattle.go_history.specs.Histories.{HistoryValue, later_at, number_at}
use Rattle.go_history.proofs.Noting.{at_start, past_start}
use Rattle.go_history.proofs.history.History.look_up.Goals as goal

pub returns-then-eq : goal.returns-then-eq
returns-then-eq g c =
    at_start (record { start = c.self.inside.start; later = c.self.inside.first.entries ++ c.self.inside.further })
    c.args.key.now (sym c.eq.ensures ∙ c.if-eq.true)
    ∙ ap (λ (v : HistoryValue). number_at v c.args.key.now) c.self.view_is

pub returns : goal.returns
returns g c =
    past_start (record { start = c.self.inside.start; later = c.self.inside.first.entries ++ c.self.inside.further })
    c.args.key.now c.look_up_later.result (sym c.eq.ensures ∙ c.if-eq.false)
    (c.look_up_later.ensures ∙ sym (ap (λ (v : HistoryValue). later_at v c.args.key.now) c.self.view_is))
    ∙ ap (λ (v : HistoryValue). number_at v c.args.key.now) c.self.view_is
