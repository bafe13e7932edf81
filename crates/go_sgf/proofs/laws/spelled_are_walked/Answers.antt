use Rattle.go_sgf.proofs.Walking.{spelled_are_walked}
use Rattle.go_sgf.proofs.laws.spelled_are_walked.Goals as goal

pub returns : goal.returns
returns c = spelled_are_walked
