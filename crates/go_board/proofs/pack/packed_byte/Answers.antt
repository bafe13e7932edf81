use Rattle.std.proofs.Common.{rules}
use Rattle.go_board.proofs.pack.packed_byte.Goals as goal

pub returns : goal.returns
returns c = search rules
