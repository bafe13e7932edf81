use Rattle.std.proofs.Common.{rules}
use Rattle.goref_session.proofs.commands.handicap.set_free_handicap.Goals as goal

pub returns-in-Err-Bad : goal.returns-in-Err-Bad
returns-in-Err-Bad g c = search rules
