use Rattle.go_board.proofs.Holding.{held_is}
use Rattle.go_board.proofs.rows.held.Goals as goal

pub returns : goal.returns
returns c g colour stones others =
    held_is c.args.lines g colour c.args.own.now c.args.theirs.now c.others.result c.spread.new.marks stones others
    c.others.ensures c.spread.ensures.spread c.spread.ensures.closed
