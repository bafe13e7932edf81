use Rattle.std.proofs.Common.{rules}
use Rattle.go_sgf.proofs.rectangle.Rectangle.row.Goals as goal

pub returns : goal.returns
returns c = search rules
