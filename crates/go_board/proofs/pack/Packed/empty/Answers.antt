use Rattle.std.proofs.Common.{rules}
use Rattle.go_board.proofs.pack.Packed.empty.Goals as goal

pub returns : goal.returns
returns c = search rules
