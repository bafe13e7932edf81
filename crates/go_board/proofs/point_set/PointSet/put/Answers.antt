use Rattle.std.proofs.Common.{arith}
use Rattle.go_board.proofs.PointBits.{put_is}
use Rattle.go_board.proofs.point_set.PointSet.put.Goals as goal

pub returns : goal.returns
returns c q = put_is c.self.inside.words c.args.number (omega (arith, c.self.invariant, c.requires)) c.args.self.now
    c.self.view_is q
