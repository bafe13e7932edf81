use Rattle.std.proofs.Common.{◌≢◌}
use Rattle.std.specs.Prelude.{Err, IfErr, Ok, OnOk}
use Rattle.go_sgf.specs.Record.{Trees}
use Rattle.go_sgf.specs.lemmas.Records.{of_this_record}
use Rattle.go_record.specs.declared.error.RecordError.TheVariants.{Memory}
use Rattle.go_record.specs.Games.{IsGameOf}
use Rattle.go_record.proofs.replaying.replay_on.Goals as goal

pub returns-clause-ok : goal.returns-clause-ok
returns-clause-ok g c =
    of_this_record c.one_record.ensures
    (λ (t : Trees). OnOk c.replay_source_on.result
    (IsGameOf t c.args.number (Ok c.replay_source_on.new.game.standing))) c.checked.ensures
    c.replay_source_on.ensures.ok

pub returns-clause-err : goal.returns-clause-err
returns-clause-err g c =
    of_this_record c.one_record.ensures
    (λ (t : Trees). IfErr c.replay_source_on.result (λ e. e ≢ Memory → IsGameOf t c.args.number (Err e)))
    c.checked.ensures
    c.replay_source_on.ensures.err
