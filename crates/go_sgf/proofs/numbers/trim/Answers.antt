use Rattle.std.proofs.Common.{rules}
use Rattle.go_sgf.proofs.numbers.trim.Goals as goal

pub returns : goal.returns
returns c = search rules
