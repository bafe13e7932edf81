use Rattle.std.proofs.Common.{rules}
use Rattle.go_sgf.proofs.reader.check.Goals as goal

pub returns-clause-read : goal.returns-clause-read
returns-clause-read c = search rules
