use Rattle.std.proofs.Common.{rules}
use Rattle.goref_session.proofs.commands.setup.boardsize.Goals as goal

pub returns-in-Some-of : goal.returns-in-Some-of
returns-in-Some-of g c = search rules
