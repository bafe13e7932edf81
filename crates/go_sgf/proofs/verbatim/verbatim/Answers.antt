use Rattle.std.proofs.Common.{refl, arith}
use Rattle.go_sgf.proofs.Passed.{stays_on, stays_whole}
use Rattle.go_sgf.proofs.verbatim.verbatim.Goals as goal

pub loop-more-init : goal.loop-more-init
loop-more-init c =
    let passed = c.after_verbatim-rest.ensures in
    let stays = passed.stays c.args.depth c.if-depth-eq0.false in
    record {
      stays = stays;
      outside = λ some. passed.stopped;
      bound = omega (arith, passed.shorter);
      no_longer = passed.shorter;
      same = λ e. (stays_whole stays (omega (arith, e)), refl);
    }

pub loop-more-preserved : goal.loop-more-preserved
loop-more-preserved c =
    let i = c.loop-more.invariant in
    record {
      stays = stays_on i.stays c.in-Some.ensures.stays;
      outside = c.in-Some.ensures.outside;
      bound = omega (arith, i.bound, c.in-Some.ensures.bound);
      no_longer = omega (arith, i.no_longer, c.in-Some.ensures.shorter);
      same = λ e. absurd (omega (arith, e, i.no_longer, c.in-Some.ensures.shorter));
    }
