use Rattle.std.proofs.Common.{rules}
use Rattle.go_sgf.proofs.rectangle.Rectangle.rows.Goals as goal

pub returns : goal.returns
returns c = search rules
