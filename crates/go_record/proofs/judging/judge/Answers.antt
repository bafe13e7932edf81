use Rattle.std.proofs.Common.{◌≢◌}
use Rattle.std.specs.Prelude.{Err, IfErr, IfOk, None}
use Rattle.go_sgf.specs.Record.{Trees}
use Rattle.go_sgf.specs.lemmas.Records.{of_this_record}
use Rattle.go_record.specs.declared.error.RecordError.TheVariants.{Memory}
use Rattle.go_record.specs.Games.{IsGameOf}
use Rattle.go_record.specs.Verdicts.{IsVerdict}
use Rattle.go_record.proofs.judging.judge.Goals as goal

pub returns-clause-ok : goal.returns-clause-ok
returns-clause-ok g c =
    of_this_record c.one_record.ensures (λ (t : Trees). IfOk c.judge_source.result (IsVerdict t)) c.checked.ensures
    c.judge_source.ensures.ok

pub returns-clause-err : goal.returns-clause-err
returns-clause-err g c =
    of_this_record c.one_record.ensures
    (λ (t : Trees). IfErr c.judge_source.result (λ e. e ≢ Memory → IsGameOf t None (Err e))) c.checked.ensures
    c.judge_source.ensures.err
