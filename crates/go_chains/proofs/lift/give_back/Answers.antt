use Rattle.std.proofs.Common.{arith}
use Rattle.go_chains.proofs.writes.Lifting.{IsGiven_more}
use Rattle.go_chains.proofs.writes.Editing.{Edited_then}
use Rattle.go_chains.proofs.lift.give_back.Goals as goal

pub loop-near-preserved : goal.loop-near-preserved
loop-near-preserved g c =
    let inv = c.loop-near.invariant in
    let one = c.give_one.ensures in
    let i = c.loop-near.near-index in
    record {
      given = IsGiven_more c.args.cells.now.numbers c.loop-near.cells.numbers c.give_one.new.cells.numbers c.args.point
          c.args.beside.now c.args.colour i c.requires.point (c.requires.on i 0 c.loop-near-test.true) inv.given
          one.given;
      edited = Edited_then inv.edited one.edited (omega arith) (omega arith) (omega arith);
    }
