use Rattle.std.proofs.Common.{◌≡◌, ◌*◌, ◌+◌, subst, ℕ, arith}
use Rattle.memchr.specs.Find.{Nowhere, Passes, is_byte2}
use Rattle.go_sgf.proofs.Lanes.{first_from, none_from}
use Rattle.go_sgf.proofs.scan.near_stop.Goals as goal

pub returns-then-found-ne0-clause-some : goal.returns-then-found-ne0-clause-some
returns-then-found-ne0-clause-some c =
    first_from (is_byte2 93 92) c.args.bytes.now (c.loop-block.block * 16) c.stops-found.result (omega arith)
    c.stops-found.ensures
    (λ none. c.if-found-ne0.true none) c.loop-block.invariant.before

pub loop-block-preserved : goal.loop-block-preserved
loop-block-preserved c =
    let next : c.loop-block.block * 16 + 16 ≡ (c.loop-block.block + 1) * 16 = omega arith in
    let none = none_from (is_byte2 93 92) c.args.bytes.now (c.loop-block.block * 16) c.stops-found.result (omega arith)
    c.stops-found.ensures
    (omega (arith, c.if-found-ne0.false)) c.loop-block.invariant.before in
    record {
      within = omega arith;
      before = subst (λ (k : ℕ). Nowhere (Passes (is_byte2 93 92) c.args.bytes.now) 0 k) next none;
    }
