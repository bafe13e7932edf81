use Rattle.std.proofs.Common.{rules}
use Rattle.goref_session.proofs.commands.play.undo.Goals as goal

pub returns-in-Some : goal.returns-in-Some
returns-in-Some g c = search rules
