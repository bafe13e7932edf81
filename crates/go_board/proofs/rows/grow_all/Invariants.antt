use Rattle.std.proofs.Common.{◌≡◌, ◌<◌, ◌*◌, ◌-◌, ◌^◌, true, false}
use Rattle.go_board.specs.declared.rows.TheConstants.{ROWS}
use Rattle.go_board.specs.inner.Spreading.{Spread, sum_of_words}
use Rattle.go_board.proofs.rows.grow_all.Given as goal

abbrev pub invariant-loop-more : goal.invariant-loop-more
invariant-loop-more l = record {
  spread : Spread l.fn.marks l.free l.marks;
  more : l.more ≡ true → sum_of_words l.fn.marks < sum_of_words l.marks;
  same : l.more ≡ false → l.marks ≡ l.fn.marks;
}

abbrev pub decreases-loop-more : goal.decreases-loop-more
decreases-loop-more l = ROWS * 2 ^ 32 - sum_of_words l.marks
