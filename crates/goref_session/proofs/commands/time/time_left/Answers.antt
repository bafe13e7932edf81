use Rattle.std.proofs.Common.{rules}
use Rattle.goref_session.proofs.commands.time.time_left.Goals as goal

pub returns-in-Some-Some-Some : goal.returns-in-Some-Some-Some
returns-in-Some-Some-Some c = search rules
