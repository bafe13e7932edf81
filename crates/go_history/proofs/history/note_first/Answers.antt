use Rattle.std.specs.Map.{lookup}
use Rattle.std.proofs.Common.{◌∙◌, Some, sym}
use Rattle.go_history.specs.Keys.{key_eq}
use Rattle.go_history.proofs.Noting.{alike, changed, number_back}
use Rattle.go_history.proofs.history.note_first.Goals as goal

pub returns-in-None-clause-noted : goal.returns-in-None-clause-noted
returns-in-None-clause-noted g c is =
    changed c.args.first.now.entries c.insert.new.self.entries c.args.key.now (Some c.args.number)
    c.in_ok-known.ensures.updates.0

pub returns-in_ok-insert-in-Some-clause-stood : goal.returns-in_ok-insert-in-Some-clause-stood
returns-in_ok-insert-in-Some-clause-stood g c k is =
    number_back (λ p. lookup (key_eq p) c.args.first.now.entries) (λ p. lookup (key_eq p) c.insert.new.self.entries)
    (λ p. lookup (key_eq p) c.insert-in-Some.new.self.entries) c.args.key.now _ c.in-Some.earlier
    (sym (alike c.args.first.now.entries c.args.key.now) ∙ sym c.in_ok-known.ensures.old ∙ c.in-Some.is)
    (changed c.args.first.now.entries c.insert.new.self.entries c.args.key.now (Some c.args.number)
    c.in_ok-known.ensures.updates.0)
    (changed c.insert.new.self.entries c.insert-in-Some.new.self.entries c.args.key.now (Some c.in-Some.earlier)
    c.in_ok-insert-in-Some.ensures.updates.0)
