use Rattle.std.specs.Map.{lookup}
use Rattle.std.proofs.Common.{◌≡◌, ◌∙◌, ◌++◌, ℕ, Option, Some, ap, cond, sym, rules}
use Rattle.go_history.specs.Keys.{key_eq}
use Rattle.go_history.specs.Histories.{HistoryValue, later_at, number_at}
use Rattle.go_history.proofs.Noting.{alike, if_ok, in_first, in_further, noted_further, past_start}
use Rattle.go_history.proofs.history.History.note.Goals as goal

pub returns-in-Some-clause-known : goal.returns-in-Some-clause-known
returns-in-Some-clause-known g c =
    past_start (record { start = c.self.inside.start; later = c.self.inside.first.entries ++ c.self.inside.further })
    c.args.key.now (Some c.in-Some.known) (sym c.eq.ensures ∙ c.if-eq.false)
    (in_first c.self.inside.first.entries c.self.inside.further c.args.key.now c.in-Some.known
    (sym c.in-Some.is ∙ c.copied.ensures ∙ c.get.ensures.value ∙ alike c.self.inside.first.entries c.args.key.now))
    ∙ ap (λ (v : HistoryValue). number_at v c.args.key.now) c.self.view_is

pub returns-clause-known : goal.returns-clause-known
returns-clause-known g c =
    if_ok (λ (known : Option ℕ). known ≡ lookup (key_eq c.args.key.now) c.self.inside.further)
    (λ (known : Option ℕ). known ≡ number_at c.args.self.now c.args.key.now)
    (λ known is.
    past_start (record { start = c.self.inside.start; later = c.self.inside.first.entries ++ c.self.inside.further })
    c.args.key.now known (sym c.eq.ensures ∙ c.if-eq.false)
    (is ∙ in_further c.self.inside.first.entries c.self.inside.further c.args.key.now
    (sym (alike c.self.inside.first.entries c.args.key.now) ∙ sym c.get.ensures.value ∙ sym c.copied.ensures
    ∙ c.in_default.is))
    ∙ ap (λ (v : HistoryValue). number_at v c.args.key.now) c.self.view_is)
    c.note.result c.note.ensures.known

pub returns-clause-noted : goal.returns-clause-noted
returns-clause-noted g c is = (
  ap (λ (v : HistoryValue). v.start) c.self.view_is,
  λ q. noted_further c.self.inside.first.entries c.self.inside.further c.note.new.self c.args.key.now c.args.number
      (sym (alike c.self.inside.first.entries c.args.key.now) ∙ sym c.get.ensures.value ∙ sym c.copied.ensures
      ∙ c.in_default.is) (c.note.ensures.noted is) q
      ∙ ap (λ (v : HistoryValue). cond (key_eq c.args.key.now q) (Some c.args.number) (later_at v q)) c.self.view_is,
)

pub returns-then-eq-clause-known : goal.returns-then-eq-clause-known
returns-then-eq-clause-known g c = search rules
