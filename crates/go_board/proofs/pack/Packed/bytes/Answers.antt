use Rattle.std.proofs.Common.{rules}
use Rattle.go_board.proofs.pack.Packed.bytes.Goals as goal

pub returns-clause-value : goal.returns-clause-value
returns-clause-value c = search rules
