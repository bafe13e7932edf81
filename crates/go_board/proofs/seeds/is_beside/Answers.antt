use Rattle.std.proofs.Common.{◌∙◌, true≢false, refl, sym}
use Rattle.go_board.specs.Points.{number_of}
use Rattle.std.proofs.Math.ListN.{get_or}
use Rattle.go_board.proofs.Beside.{adjacent_at, all_done, are_neighbours, done_more, origin}
use Rattle.go_board.proofs.seeds.is_beside.Goals as goal

pub returns-then-is_same : goal.returns-then-is_same
returns-then-is_same c =
    let n = c.args.grid.now.lines in
    let items = c.as_slice-q-items.result.now in
    let them = are_neighbours c.args.p c.size.ensures.lines c.as_slice-q-items.ensures.value c.put_neighbours.ensures.on
    c.put_neighbours.ensures.beside c.put_neighbours.ensures.each in (
      λ e. (
        number_of n (get_or items c.loop-q.q-index origin),
        adjacent_at n c.args.p items c.loop-q.q-index c.requires c.loop-q-test.true them,
        sym c.get.ensures
            ∙ c.if-is_same.ensures.0 refl,
      ),
      λ h. refl,
    )

pub loop-q-preserved : goal.loop-q-preserved
loop-q-preserved c =
    done_more c.args.grid.now.lines c.args.grid.now.colours c.args.colour c.as_slice-q-items.result.now c.loop-q.q-index
    (λ j. ⊥) (λ j. ⊥) c.loop-q-test.true c.loop-q.invariant (λ j h. h)
    (λ same. true≢false (sym (c.if-is_same.ensures.1 (c.get.ensures ∙ same))))

pub returns : goal.returns
returns c =
    let items = c.as_slice-q-items.result.now in
    let them = are_neighbours c.args.p c.size.ensures.lines c.as_slice-q-items.ensures.value c.put_neighbours.ensures.on
    c.put_neighbours.ensures.beside c.put_neighbours.ensures.each in (
      λ e. absurd (true≢false (sym e)),
      λ h.
          absurd (all_done c.args.grid.now.lines c.args.grid.now.colours c.args.p c.args.colour items c.loop-q.q-index
          (λ j. ⊥) c.requires c.loop-q-test.false them c.loop-q.invariant h.0 h.1 h.2),
    )
