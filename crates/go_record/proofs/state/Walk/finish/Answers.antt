use Rattle.go_record.specs.inner.Progress.{WalkedGame}
use Rattle.go_record.proofs.Walking.{end_dead, end_playing, end_started, met, none_met}
use Rattle.go_record.proofs.state.Walk.finish.Goals as goal

pub returns-then-self-clause-ok : goal.returns-then-self-clause-ok
returns-then-self-clause-ok g c =
    let w : WalkedGame = (c.args.self.now, c.args.game.now) in
    end_playing w c.args.game.now (met w c.if-self.true)

pub returns-clause-ok : goal.returns-clause-ok
returns-clause-ok g c =
    let w : WalkedGame = (c.args.self.now, c.args.game.now) in
    end_started w c.begin.result c.begin.new.game.standing (none_met w c.if-self.false) c.begin.ensures.ok

pub returns-clause-err : goal.returns-clause-err
returns-clause-err g c =
    let w : WalkedGame = (c.args.self.now, c.args.game.now) in
    end_dead w c.begin.result (none_met w c.if-self.false) c.begin.ensures.err
