use Rattle.go_board.specs.lemmas.Writing.{writes_then}
use Rattle.go_record.specs.inner.Texts.{move_text}
use Rattle.go_record.proofs.Writes.{taken_more}
use Rattle.go_record.proofs.writer.put_moves.Goals as goal

pub loop-number-preserved : goal.loop-number-preserved
loop-number-preserved g c =
    let s = c.args.game.now.standing in
    writes_then _ c.loop-number.invariant c.put_numbered.ensures
    (taken_more (move_text s.lines) s.moves c.loop-number.number)
