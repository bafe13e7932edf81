use Rattle.std.proofs.Common.{rules}
use Rattle.go_record.proofs.laws.usual_lines.Goals as goal

pub returns : goal.returns
returns c = search rules
