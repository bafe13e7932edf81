use Rattle.std.proofs.Common.{arith}
use Rattle.go_chains.specs.Cells.{next_of}
use Rattle.go_chains.proofs.writes.Relabelling.{IsRelabelled_more, relabelled_link}
use Rattle.go_chains.proofs.writes.Editing.{Edited_next, Edited_within}
use Rattle.go_chains.proofs.join.relabel.Goals as goal

pub loop-preserved : goal.loop-preserved
loop-preserved g c =
    let i = c.loop.counter in
    let inv = c.loop.invariant in
    let at_in = c.requires.on i c.loop-test.true in
    let relabelled = IsRelabelled_more (next_of c.args.cells.now.numbers) c.args.cells.now.numbers c.loop.cells.numbers
    c.put.new.cells.numbers c.args.from i c.args.to c.loop.at
    (let e = inv.at in omega arith) inv.at inv.relabelled c.put.ensures.written in
    record {
      at = relabelled_link c.args.cells.now.numbers c.put.new.cells.numbers c.args.from i c.args.to c.loop.at
          c.get-at.result inv.at relabelled c.get-at.ensures.value;
      relabelled = relabelled;
      edited = Edited_within (Edited_next inv.edited c.put.ensures.edited (omega arith)) (omega arith) (omega arith)
          (omega arith) (omega arith);
    }
