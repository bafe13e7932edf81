use Rattle.std.proofs.Common.{rules}
use Rattle.goref_session.proofs.commands.telling.known_command.Goals as goal

pub returns-in-Some : goal.returns-in-Some
returns-in-Some c = search rules
