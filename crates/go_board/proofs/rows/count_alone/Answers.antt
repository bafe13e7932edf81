use Rattle.std.proofs.Common.{arith}
use Rattle.go_board.proofs.RowCounts.{row_counted, rows_counted}
use Rattle.go_board.proofs.rows.count_alone.Goals as goal

pub loop-row-preserved : goal.loop-row-preserved
loop-row-preserved c = record {
  few = omega (arith, c.loop-row.invariant.few, c.count_in_row-count.ensures.few);
  counted = λ g colour own theirs.
      row_counted c.args.lines g colour c.args.own.now c.args.theirs.now own theirs c.loop-row.row c.loop-row.count
      c.count_in_row-count.result c.loop-row-test.true (omega (arith, c.requires))
      (c.loop-row.invariant.counted g colour own theirs) c.count_in_row-count.ensures.counted;
}

pub returns : goal.returns
returns c g colour own theirs =
    rows_counted c.args.lines g colour c.loop-row.row c.loop-row.count
    (omega (arith, c.loop-row-test.false, c.loop-row.auto.row-end))
    (c.loop-row.invariant.counted g colour own theirs)
