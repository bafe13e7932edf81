use Rattle.std.proofs.Common.{rules}
use Rattle.goref_session.proofs.commands.setup.superko.Goals as goal

pub returns-in-Some : goal.returns-in-Some
returns-in-Some g c = search rules

pub returns-in-Some-2 : goal.returns-in-Some-2
returns-in-Some-2 g c = search rules
