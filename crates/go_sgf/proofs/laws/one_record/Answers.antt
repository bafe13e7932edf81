use Rattle.go_sgf.proofs.Unambiguous.{one_record}
use Rattle.go_sgf.proofs.laws.one_record.Goals as goal

pub returns : goal.returns
returns c = one_record
