use Rattle.std.proofs.Common.{◌≢◌}
use Rattle.std.specs.Prelude.{Err, IfErr, IfOk, Ok}
use Rattle.go_sgf.specs.Record.{Trees}
use Rattle.go_sgf.specs.lemmas.Records.{of_this_record}
use Rattle.go_record.specs.declared.error.RecordError.TheVariants.{Memory}
use Rattle.go_record.specs.Games.{IsGameOf}
use Rattle.go_record.proofs.replaying.replay.Goals as goal

pub returns-clause-ok : goal.returns-clause-ok
returns-clause-ok g c =
    of_this_record c.one_record.ensures
    (λ (t : Trees). IfOk c.replay_source.result (λ game. IsGameOf t c.args.number (Ok game.standing)))
    c.checked.ensures
    c.replay_source.ensures.ok

pub returns-clause-err : goal.returns-clause-err
returns-clause-err g c =
    of_this_record c.one_record.ensures
    (λ (t : Trees). IfErr c.replay_source.result (λ e. e ≢ Memory → IsGameOf t c.args.number (Err e)))
    c.checked.ensures
    c.replay_source.ensures.err
