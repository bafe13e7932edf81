use Rattle.go_board.proofs.Growing.{IsSwept}
use Rattle.go_board.proofs.rows.sweep.Given as goal

abbrev pub invariant-loop-row : goal.invariant-loop-row
invariant-loop-row l = IsSwept l.fn.marks l.free l.marks l.more l.row

abbrev pub invariant-loop-passed : goal.invariant-loop-passed
invariant-loop-passed l = IsSwept l.fn.marks l.free l.marks l.more l.lines
