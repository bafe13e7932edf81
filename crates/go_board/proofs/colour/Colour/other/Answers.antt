use Rattle.std.proofs.Common.{rules}
use Rattle.go_board.proofs.colour.Colour.other.Goals as goal

pub returns-in-Black : goal.returns-in-Black
returns-in-Black c = search rules
