use Rattle.std.proofs.Common.{◌∙◌, sym, rules}
use Rattle.goref_session.proofs.Named.{found_here, found_later}
use Rattle.goref_session.proofs.command.command_listed.Goals as goal

pub returns-then-eq : goal.returns-then-eq
returns-then-eq c =
    sym (found_here _ c.loop-known.known-index c.args.name.now _ c.loop-known-test.true
    (sym c.eq.ensures ∙ c.if-eq.true)) ∙ c.loop-known.invariant

pub loop-known-preserved : goal.loop-known-preserved
loop-known-preserved c =
    sym (found_later _ c.loop-known.known-index c.args.name.now _ c.loop-known-test.true
    (sym c.eq.ensures ∙ c.if-eq.false)) ∙ c.loop-known.invariant

pub loop-known-init : goal.loop-known-init
loop-known-init c = search rules
