use Rattle.std.proofs.Common.{◌∙◌, sym}
use Rattle.goref_session.proofs.Choices.{no_memory, plays_told}
use Rattle.goref_session.proofs.commands.play.legal.Goals as goal

pub returns-in-Ok : goal.returns-in-Ok
returns-in-Ok g c =
    plays_told c.args.game.now.standing c.legal_plays.new.game.standing c.in-Some.colour _ c.in-Ok.plays
    (sym c.colour_argument.ensures ∙ c.in-Some.is) c.legal_plays.ensures.same.standing c.in-Ok.ensures.ok

pub returns-in-Err : goal.returns-in-Err
returns-in-Err g c = no_memory c.args.game.now.standing c.legal_plays.new.game.standing c.in-Some.colour _
    (sym c.colour_argument.ensures ∙ c.in-Some.is) c.legal_plays.ensures.same.standing
