use Rattle.std.proofs.Common.{take}
use Rattle.std.specs.List.{flat_map}
use Rattle.go_board.specs.Pens.{Writes}
use Rattle.go_record.specs.inner.Texts.{move_text}
use Rattle.go_record.proofs.writer.put_moves.Given as goal

abbrev pub invariant-loop-number : goal.invariant-loop-number
invariant-loop-number g l =
    Writes g.W.Sink l.fn.pen l.pen (flat_map (move_text l.game.standing.lines) (take l.number l.game.standing.moves))
