use Rattle.goref_session.proofs.Ending.{plain_answers}
use Rattle.goref_session.proofs.laws.plain_answers.Goals as goal

pub returns : goal.returns
returns c = plain_answers
