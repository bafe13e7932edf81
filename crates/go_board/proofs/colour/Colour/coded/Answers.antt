use Rattle.std.proofs.Common.{rules}
use Rattle.go_board.proofs.colour.Colour.coded.Goals as goal

pub returns-in_default : goal.returns-in_default
returns-in_default c = search rules
