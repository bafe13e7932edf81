use Rattle.std.proofs.Common.{rules}
use Rattle.go_board.proofs.decimals.with_digit.Goals as goal

pub returns : goal.returns
returns c = search rules
