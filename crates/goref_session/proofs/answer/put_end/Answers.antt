use Rattle.std.proofs.Common.{rules}
use Rattle.goref_session.proofs.answer.put_end.Goals as goal

pub returns : goal.returns
returns g c = search rules
