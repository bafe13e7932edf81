use Rattle.go_sgf.proofs.values.value.Goals as goal

pub returns-in-Some-clause-inside : goal.returns-in-Some-clause-inside
returns-in-Some-clause-inside c = rw c.split_at.ensures.front c.in-Some.ensures.inside
