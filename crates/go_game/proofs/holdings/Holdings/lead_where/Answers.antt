use Rattle.std.proofs.Common.{arith, ◌+◌, ◌*◌}
use Rattle.std.proofs.lemmas.Int.{ints}
use Rattle.go_game.proofs.Holding.{lead_gained}
use Rattle.go_game.proofs.holdings.Holdings.lead_where.Goals as goal

pub returns-in-Some : goal.returns-in-Some
returns-in-Some c g colour hold empty =
    let gains = c.in-Some.ensures.gain g colour hold.whole empty hold.own hold.own_held hold.theirs_held in
    let lead = lead_gained c.args.lines g colour (c.args.row * c.args.lines + c.args.col) c.args.self.now c.in-Some.gain
    hold gains in
    omega (arith, ints, lead, c.from.ensures, c.from-in-Some.ensures, c.from-in-Some-2.ensures)

pub returns-in-None : goal.returns-in-None
returns-in-None c g colour hold empty =
    omega (arith, ints, c.lead_counted.ensures g colour hold empty, c.lead_counted.type_inv)
