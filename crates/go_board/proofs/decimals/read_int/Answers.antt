use Rattle.std.proofs.Common.{rules}
use Rattle.go_board.proofs.decimals.read_int.Goals as goal

pub returns-then-is_empty-clause-value : goal.returns-then-is_empty-clause-value
returns-then-is_empty-clause-value c = search rules

pub returns-then-value-from-clause-value : goal.returns-then-value-from-clause-value
returns-then-value-from-clause-value c = search rules
