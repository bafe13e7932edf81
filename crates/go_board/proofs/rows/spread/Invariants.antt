use Rattle.std.proofs.Common.{◌*◌, ◌-◌, ◌^◌}
use Rattle.go_board.specs.declared.rows.TheConstants.{ROWS}
use Rattle.go_board.specs.inner.Spreading.{Spread, sum_of_words}
use Rattle.go_board.proofs.rows.spread.Given as goal

abbrev pub invariant-loop : goal.invariant-loop
invariant-loop l = Spread l.fn.marks l.free l.marks

abbrev pub decreases-loop : goal.decreases-loop
decreases-loop l = ROWS * 2 ^ 32 - sum_of_words l.marks
