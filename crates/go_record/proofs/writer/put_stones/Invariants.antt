use Rattle.std.proofs.Common.{◌≡◌}
use Rattle.go_board.specs.Pens.{Writes}
use Rattle.go_record.specs.inner.Texts.{coloured_within, named_stones}
use Rattle.go_record.proofs.Writes.{in_front}
use Rattle.go_record.proofs.writer.put_stones.Given as goal

abbrev pub invariant-loop-number : goal.invariant-loop-number
invariant-loop-number g l = record {
  written : Writes g.W.Sink l.fn.pen l.pen
      (named_stones l.fn.name l.game.standing.lines (coloured_within l.game.standing.start l.colour l.number));
  prefix : l.prefix ≡ in_front l.fn.name (coloured_within l.game.standing.start l.colour l.number);
}
