use Rattle.std.proofs.Common.{rules}
use Rattle.go_game.proofs.play.note_step.Goals as goal

pub returns-clause-noted : goal.returns-clause-noted
returns-clause-noted g c = search rules

pub returns-clause-lacked : goal.returns-clause-lacked
returns-clause-lacked g c = search rules
