use Rattle.std.proofs.Common.{arith}
use Rattle.go_board.proofs.Growing.{spread_more, total_most}
use Rattle.go_board.proofs.rows.spread.Goals as goal

pub loop-smaller : goal.loop-smaller
loop-smaller c =
    let longer = c.sweep.ensures.more c.loop-test.true in
    let most = total_most c.sweep.new.marks (c.sweep.ensures.spread.fits (c.loop.invariant.fits c.fits-marks)) in
    omega (arith, longer, most, c.sweep.array_long)

pub loop-preserved : goal.loop-preserved
loop-preserved c = spread_more c.args.free.now c.loop.invariant c.sweep.ensures.spread

pub returns-clause-spread : goal.returns-clause-spread
returns-clause-spread c = spread_more c.args.free.now c.loop.invariant c.sweep.ensures.spread
