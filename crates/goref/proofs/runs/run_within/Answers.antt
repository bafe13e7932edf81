use Rattle.goref.proofs.runs.run_within.Goals as goal

pub returns : goal.returns
returns g c = rw c.new-session.ensures at c.run_from.ensures
