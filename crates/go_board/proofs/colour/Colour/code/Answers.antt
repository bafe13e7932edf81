use Rattle.std.proofs.Common.{rules}
use Rattle.go_board.proofs.colour.Colour.code.Goals as goal

pub returns-in-White-clause-value : goal.returns-in-White-clause-value
returns-in-White-clause-value c = search rules
