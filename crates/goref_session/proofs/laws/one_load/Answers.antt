use Rattle.goref_session.proofs.Loads.{one_load}
use Rattle.goref_session.proofs.laws.one_load.Goals as goal

pub returns : goal.returns
returns c = one_load c.one_record.ensures c.one_outcome.ensures
