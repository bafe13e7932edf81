use Rattle.std.proofs.Common.{rules}
use Rattle.go_board.proofs.point.put_neighbours.Goals as goal

pub returns-else-p-last-2-clause-each : goal.returns-else-p-last-2-clause-each
returns-else-p-last-2-clause-each c = search rules
