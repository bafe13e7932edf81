use Rattle.std.proofs.Common.{arith, ◌*◌, ◌-◌, ◌<◌, ◌∙◌, ap}
use Rattle.std.specs.Int.{bit_at}
use Rattle.std.proofs.lemmas.Nat.{one_shl}
use Rattle.std.proofs.lemmas.Nat.Bits.{bit_at_ones, bit_at_ones_above}
use Rattle.go_board.proofs.point_set.mask_of.Goals as goal

pub returns-then-first-points-clause-inside : goal.returns-then-first-points-clause-inside
returns-then-first-points-clause-inside c i low within = bit_at_ones 64 i low

pub returns-clause-inside : goal.returns-clause-inside
returns-clause-inside c i low within =
    let k = c.args.points - 64 * c.args.word in
    let short : k < 64 = omega arith in
    ap (λ m. bit_at (m - 1) i) (one_shl k 64 short) ∙ bit_at_ones k i (omega arith)

pub returns-clause-outside : goal.returns-clause-outside
returns-clause-outside c i low past =
    let k = c.args.points - 64 * c.args.word in
    let short : k < 64 = omega arith in
    ap (λ m. bit_at (m - 1) i) (one_shl k 64 short) ∙ bit_at_ones_above k i (omega arith)
