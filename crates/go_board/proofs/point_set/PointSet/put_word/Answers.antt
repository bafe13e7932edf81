use Rattle.std.proofs.Common.{arith}
use Rattle.go_board.proofs.PointBits.{word_put}
use Rattle.go_board.proofs.point_set.PointSet.put_word.Goals as goal

pub returns : goal.returns
returns c q = word_put c.self.inside.words c.args.place c.args.bits (omega (arith, c.self.invariant, c.requires))
    c.args.self.now c.self.view_is q
