use Rattle.std.proofs.Common.{◌∙◌, ap, rules, sym}
use Rattle.go_history.specs.Histories.{HistoryValue, later_at}
use Rattle.go_history.proofs.Noting.{alike, in_first, in_first_alone, in_further}
use Rattle.go_history.proofs.history.History.look_up_later.Goals as goal

pub returns-in-Some : goal.returns-in-Some
returns-in-Some g c =
    in_first c.self.inside.first.entries c.self.inside.further c.args.key.now c.in-Some.number
    (sym c.in-Some.is ∙ c.copied.ensures ∙ c.get.ensures.value ∙ alike c.self.inside.first.entries c.args.key.now)
    ∙ ap (λ (v : HistoryValue). later_at v c.args.key.now) c.self.view_is

pub returns-then-is_empty : goal.returns-then-is_empty
returns-then-is_empty g c =
    sym (in_first_alone c.self.inside.first.entries c.self.inside.further c.args.key.now (search rules)
    ∙ sym (alike c.self.inside.first.entries c.args.key.now) ∙ sym c.get.ensures.value ∙ sym c.copied.ensures
    ∙ c.in_default.is)
    ∙ ap (λ (v : HistoryValue). later_at v c.args.key.now) c.self.view_is

pub returns : goal.returns
returns g c =
    c.get-2.ensures
    ∙ in_further c.self.inside.first.entries c.self.inside.further c.args.key.now
    (sym (alike c.self.inside.first.entries c.args.key.now) ∙ sym c.get.ensures.value ∙ sym c.copied.ensures
    ∙ c.in_default.is)
    ∙ ap (λ (v : HistoryValue). later_at v c.args.key.now) c.self.view_is
