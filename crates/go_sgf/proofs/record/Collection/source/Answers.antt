use Rattle.std.proofs.Common.{rules}
use Rattle.go_sgf.proofs.record.Collection.source.Goals as goal

pub returns : goal.returns
returns g c = search rules
