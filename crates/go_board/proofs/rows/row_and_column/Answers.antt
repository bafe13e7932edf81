use Rattle.std.proofs.Common.{rules}
use Rattle.go_board.proofs.rows.row_and_column.Goals as goal

pub returns-clause-row : goal.returns-clause-row
returns-clause-row c = search rules

pub returns-clause-col : goal.returns-clause-col
returns-clause-col c = search rules
