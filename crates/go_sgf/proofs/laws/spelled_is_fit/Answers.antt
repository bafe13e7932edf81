use Rattle.go_sgf.proofs.laws.spelled_is_fit.Goals as goal

pub returns : goal.returns
returns c = λ b t s. s.fit
