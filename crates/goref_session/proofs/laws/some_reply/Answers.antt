use Rattle.goref_session.proofs.Possible.{some_reply}
use Rattle.goref_session.proofs.laws.some_reply.Goals as goal

pub returns : goal.returns
returns c = some_reply
