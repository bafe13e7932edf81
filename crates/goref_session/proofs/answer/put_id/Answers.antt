use Rattle.std.proofs.Common.{rules}
use Rattle.goref_session.proofs.answer.put_id.Goals as goal

pub returns-in-Some : goal.returns-in-Some
returns-in-Some g c = search rules
