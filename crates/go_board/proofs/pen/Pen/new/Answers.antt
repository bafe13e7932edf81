use Rattle.std.proofs.Common.{rules}
use Rattle.go_board.proofs.pen.Pen.new.Goals as goal

pub returns-clause-fresh : goal.returns-clause-fresh
returns-clause-fresh g c = search rules
