use Rattle.go_record.proofs.Decided.{exactly_one}
use Rattle.go_record.proofs.laws.one_outcome.Goals as goal

pub returns : goal.returns
returns c = exactly_one
