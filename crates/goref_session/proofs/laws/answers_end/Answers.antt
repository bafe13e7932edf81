use Rattle.goref_session.proofs.Ending.{answers_end}
use Rattle.goref_session.proofs.laws.answers_end.Goals as goal

pub returns : goal.returns
returns c = answers_end
