use Rattle.std.proofs.Common.{rules}
use Rattle.goref_session.proofs.commands.play.play_choice.Goals as goal

pub returns-in-Ok-play : goal.returns-in-Ok-play
returns-in-Ok-play g c = search rules
