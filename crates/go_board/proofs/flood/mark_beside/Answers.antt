use Rattle.std.proofs.Common.{◌∙◌, sym}
use Rattle.go_board.specs.inner.Flood.{IsMarked}
use Rattle.go_board.proofs.Beside.{all_done, are_neighbours, beside_more, done_more}
use Rattle.go_board.proofs.flood.mark_beside.Goals as goal

pub loop-q-preserved : goal.loop-q-preserved
loop-q-preserved c =
    let items = c.as_slice-q-items.result.now in
    let them = are_neighbours c.args.p c.size.ensures.lines c.as_slice-q-items.ensures.value c.put_neighbours.ensures.on
    c.put_neighbours.ensures.beside c.put_neighbours.ensures.each in
    record {
      grows = beside_more c.args.grid.now.lines c.args.grid.now.colours c.args.p c.get-colour.result items
          c.loop-q.q-index c.requires.on c.get-colour.ensures c.loop-q-test.true them c.loop-q.invariant.grows
          c.mark_coloured.ensures.grows;
      done = done_more c.args.grid.now.lines c.args.grid.now.colours c.get-colour.result items c.loop-q.q-index
          (IsMarked c.loop-q.marks) (IsMarked c.mark_coloured.new.marks) c.loop-q-test.true c.loop-q.invariant.done
          c.mark_coloured.ensures.grows.kept c.mark_coloured.ensures.marked;
    }

pub returns : goal.returns
returns c =
    let items = c.as_slice-q-items.result.now in
    let them = are_neighbours c.args.p c.size.ensures.lines c.as_slice-q-items.ensures.value c.put_neighbours.ensures.on
    c.put_neighbours.ensures.beside c.put_neighbours.ensures.each in
    record {
      grows = c.loop-q.invariant.grows;
      done = λ j step. all_done c.args.grid.now.lines c.args.grid.now.colours c.args.p c.get-colour.result items
          c.loop-q.q-index (IsMarked c.loop-q.marks) c.requires.on c.loop-q-test.false them c.loop-q.invariant.done j
          step.0 (step.1 ∙ sym c.get-colour.ensures);
    }
