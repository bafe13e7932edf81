use Rattle.std.proofs.Common.{rules}
use Rattle.go_record.proofs.judging.compared.Goals as goal

pub returns-in-Some-2 : goal.returns-in-Some-2
returns-in-Some-2 c = search rules
