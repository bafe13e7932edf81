use Rattle.std.proofs.Common.{arith, ◌<◌, ◌^◌, bit_and}
use Rattle.std.proofs.lemmas.Nat.{and_le_l}
use Rattle.go_board.proofs.PointCounts.{ones_counted}
use Rattle.go_board.proofs.point_set.count_in.Goals as goal

pub returns-clause-counted : goal.returns-clause-counted
returns-clause-counted c words read =
    let fits : bit_and c.args.bits c.args.mask < 2 ^ 64 = omega (arith, and_le_l c.args.bits c.args.mask) in
    ones_counted words c.args.points c.args.word c.args.bits c.args.mask read c.requires.inside c.requires.outside fits
