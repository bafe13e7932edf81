use Rattle.std.proofs.Common.{rules}
use Rattle.go_sgf.proofs.main_line.MainLine.fork.Goals as goal

pub returns : goal.returns
returns c = search rules
