use Rattle.std.proofs.lemmas.Result.{err_from_is_err_and}
use Rattle.std.specs.Prelude.{Err}
use Rattle.go_record.specs.inner.Progress.{WalkedGame}
use Rattle.go_record.proofs.Walking.{began_dead, began_setting, if_err, none_met, on_ok}
use Rattle.go_record.proofs.state.Walk.play.Goals as goal

pub returns-in_err-begin-clause-err : goal.returns-in_err-begin-clause-err
returns-in_err-begin-clause-err g c =
    let w : WalkedGame = (c.args.self.now, c.args.game.now) in
    let p = err_from_is_err_and c.from_residual.result c.from_residual.ensures.1 in
    rw (p.1, p.2) (λ some events. began_dead w (none_met w c.if-self.false) c.in_err-begin.field-0.0
    (c.in_err-begin.ensures.err some) c.args.node c.args.colour c.args.value.now events)

pub returns-clause-ok : goal.returns-clause-ok
returns-clause-ok g c =
    let w : WalkedGame = (c.args.self.now, c.args.game.now) in
    let begun = c.in_ok-begin.ensures.ok in
    on_ok c.play_value-2.result (λ plays events outcome h.
    began_setting w c.begin.new.game.standing (none_met w c.if-self.false) begun.0 begun.1
    c.args.node c.args.colour c.args.value.now events outcome (plays events outcome h)) c.play_value-2.ensures.ok

pub returns-clause-err : goal.returns-clause-err
returns-clause-err g c =
    let w : WalkedGame = (c.args.self.now, c.args.game.now) in
    let begun = c.in_ok-begin.ensures.ok in
    if_err c.play_value-2.result (λ e plays some events.
    began_setting w c.begin.new.game.standing (none_met w c.if-self.false) begun.0 begun.1
    c.args.node c.args.colour c.args.value.now events (Err e) (plays some events)) c.play_value-2.ensures.err
