use Rattle.std.proofs.Common.{arith, true≢false}
use Rattle.go_board.proofs.Growing.{spread_more, total_most}
use Rattle.go_board.proofs.rows.grow_all.Goals as goal

pub loop-more-smaller : goal.loop-more-smaller
loop-more-smaller c =
    let longer = c.grow.ensures.more c.loop-more-test.true in
    let most = total_most c.grow.new.marks
    (c.grow.ensures.spread.fits (c.loop-more.invariant.spread.fits c.fits-marks)) in
    omega (arith, longer, most, c.grow.array_long)

pub loop-more-preserved : goal.loop-more-preserved
loop-more-preserved c = record {
  spread = spread_more c.args.free.now c.loop-more.invariant.spread c.grow.ensures.spread;
  more = λ _. let longer = c.grow.ensures.more c.loop-more-test.true in let so_far =
      c.loop-more.invariant.spread.most in omega arith;
  same = λ none. absurd (true≢false none);
}
