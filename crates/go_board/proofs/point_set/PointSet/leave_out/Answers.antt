use Rattle.std.proofs.Common.{arith}
use Rattle.go_board.proofs.PointBits.{left_is}
use Rattle.go_board.proofs.point_set.PointSet.leave_out.Goals as goal

pub returns : goal.returns
returns c q = left_is c.self.inside.words c.args.number (omega (arith, c.self.invariant, c.requires)) c.args.self.now
    c.self.view_is q
