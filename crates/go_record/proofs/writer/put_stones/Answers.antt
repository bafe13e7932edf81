use Rattle.std.proofs.Common.{◌∙◌}
use Rattle.go_board.specs.lemmas.Writing.{writes_then}
use Rattle.go_record.proofs.Writes.{prefix_more, stones_more}
use Rattle.go_record.proofs.writer.put_stones.Goals as goal

pub loop-number-preserved : goal.loop-number-preserved
loop-number-preserved g c =
    let s = c.args.game.now.standing in
    let k = c.loop-number.number in
    let back = rw c.size-size.ensures.lines at c.numbered.ensures.back in
    let is = rw c.size-size.ensures.lines at c.numbered.ensures.value in
    record {
      written =
          writes_then _ c.loop-number.invariant.written
          (rw (back, is, c.loop-number.invariant.prefix) at c.put_if_coloured-prefix.ensures.stone)
          (stones_more c.args.name.now s.lines s.start c.args.colour k);
      prefix = rw (back, c.loop-number.invariant.prefix) at c.put_if_coloured-prefix.ensures.next
          ∙ prefix_more c.args.name.now s.start c.args.colour k;
    }
