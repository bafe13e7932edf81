use Rattle.std.proofs.Common.{subst, length, arith}
use Rattle.memchr.specs.Find.{NoneBefore, Passes, is_byte2}
use Rattle.go_sgf.proofs.Lanes.{first_after}
use Rattle.go_sgf.proofs.scan.first_stop.Goals as goal

pub returns : goal.returns
returns c =
    let stops = is_byte2 93 92 in
    let place = c.in_ok-place.place in
    first_after stops c.args.bytes.now c.min-passed.result place (omega arith)
    (λ k low less. c.in_default.ensures.none k low (omega arith))
    (subst (λ rest. NoneBefore (Passes stops rest) 0 (length rest) place × Passes stops rest place)
    c.split_at.ensures.back c.in_ok-place.ensures)
