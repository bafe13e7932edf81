use Rattle.std.proofs.Common.{◌∙◌, ap, sym, rules}
use Rattle.std.specs.Option.{option_and_then}
use Rattle.goref_lines.specs.Requests.{Asked, asked_by}
use Rattle.goref_lines.specs.Words.{words}
use Rattle.goref_session.specs.Commands.{command_of}
use Rattle.goref_session.specs.inner.Wanting.{may_load}
use Rattle.goref_session.proofs.Wanting.{asks_for_another, none_wanted}
use Rattle.goref_session.proofs.fetched.wants.Goals as goal

pub returns-then-not-may_ask_to_load : goal.returns-then-not-may_ask_to_load
returns-then-not-may_ask_to_load c =
    none_wanted c.args.line.now (asks_for_another c.args.line.now.text
    (ap may_load (sym c.text-text.ensures.value) ∙ sym c.may_ask_to_load.ensures ∙ c.if-not-may_ask_to_load.true))

pub returns-then-not-asks_to_load : goal.returns-then-not-asks_to_load
returns-then-not-asks_to_load c = none_wanted c.args.line.now (λ asks.
    let read = c.of-request.ensures ∙ ap (λ t. asked_by (words t)) c.text-text.ensures.value in
    let bad = sym c.if-not-asks_to_load.true
    ∙ c.asks_to_load.ensures.1 (ap (λ (a : Asked). option_and_then command_of a.name) read ∙ asks) in
    cc)

pub returns-in-Some : goal.returns-in-Some
returns-in-Some c = search rules
