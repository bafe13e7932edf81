use Rattle.std.proofs.Common.{arith}
use Rattle.go_board.proofs.RowBits.{place_put}
use Rattle.go_board.proofs.rows.put_place.Goals as goal

pub returns : goal.returns
returns c r k = place_put c.args.rows.now c.args.row c.args.col (omega (arith, c.told-rows, c.requires.row))
    (omega (arith, c.requires.col)) r k
