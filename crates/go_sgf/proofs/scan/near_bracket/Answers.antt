use Rattle.std.proofs.Common.{arith}
use Rattle.go_sgf.proofs.Scanning.{ordinary_before}
use Rattle.go_sgf.proofs.scan.near_bracket.Goals as goal

pub returns-then-bytes-place-eq93-clause-prefix : goal.returns-then-bytes-place-eq93-clause-prefix
returns-then-bytes-place-eq93-clause-prefix c =
    ordinary_before c.args.bytes.now c.in_ok-place.place
    (λ k less. c.in_ok-place.ensures.some.0.before k (omega arith) less)
