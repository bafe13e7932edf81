use Rattle.std.proofs.Common.{◌∙◌, Err, sym, ap}
use Rattle.goref_session.proofs.Moves.{move_made, move_refused}
use Rattle.goref_session.proofs.commands.play.play_move.Goals as goal

pub returns-in-Ok : goal.returns-in-Ok
returns-in-Ok g c = move_made c.legal_by_the_rules.ensures c.args.game.now.standing c.play.new.self.standing c.args.made
    c.in-Ok.ensures.legal c.in-Ok.ensures.played

pub returns-in-Err : goal.returns-in-Err
returns-in-Err g c =
    rw c.refusal_of.ensures
    (move_refused c.legal_by_the_rules.ensures c.args.game.now.standing c.play.new.self.standing c.args.made
    c.in-Err.error c.in-Err.ensures.costs.err.standing
    (λ e. c.play.ensures.off_board.0 (c.in-Err.is ∙ ap Err e))
    (λ o. let r = sym c.in-Err.is ∙ c.play.ensures.off_board.1 o in cc)
    (λ e. c.play.ensures.occupied.0 (c.in-Err.is ∙ ap Err e))
    (λ o. let r = sym c.in-Err.is ∙ c.play.ensures.occupied.1 o in cc)
    (λ k e. c.play.ensures.repeats k (c.in-Err.is ∙ ap Err e)))
