use Rattle.std.proofs.Common.{inr, rules}
use Rattle.std.proofs.lemmas.Result.{err_from_is_err_and}
use Rattle.goref_session.proofs.Loads.{other_refusal}
use Rattle.goref_session.proofs.commands.record.check_and_replay.Goals as goal

pub returns-in_err-replay_source_on-clause-cannot : goal.returns-in_err-replay_source_on-clause-cannot
returns-in_err-replay_source_on-clause-cannot g c = λ h.
    let p = err_from_is_err_and c.from_residual-in_err-replay_source_on.result
    c.from_residual-in_err-replay_source_on.ensures.1 in
    let why = c.in_err-replay_source_on.field-0.0 in
    let other = other_refusal c.from_residual-in_err-replay_source_on.result p.0 why p.1 p.2 h in
    let told = rw c.in_ok-checked.ensures.source at c.in_err-replay_source_on.ensures.err in
    inr (told.0, why, other, told.1, told.2 other)

pub returns-clause-ok : goal.returns-clause-ok
returns-clause-ok g c =
    let told = rw c.in_ok-checked.ensures.source at c.in_ok-replay_source_on.ensures.ok in
    (search rules, told.0, told.1, told.2)
