use Rattle.goref.proofs.runs.run.Goals as goal

pub returns : goal.returns
returns g c = c.run_within.ensures
