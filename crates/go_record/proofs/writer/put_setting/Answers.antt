use Rattle.std.proofs.Common.{arith, ◌≡◌, ◌∙◌, ap, w64}
use Rattle.std.proofs.lemmas.Int.{ints}
use mir.Val.{of_z, to_z}
use Rattle.go_board.specs.lemmas.Writing.{writes_writes}
use Rattle.go_game.specs.Scores.{hundredths_word}
use Rattle.std.specs.Prelude.{decimal}
use Rattle.go_record.proofs.writer.put_setting.Goals as goal

pub returns : goal.returns
returns g c =
    let back : to_z w64 (of_z w64 c.komi.result) ≡ c.komi.result = omega (arith, ints, c.komi.type_inv) in
    let komi : c.as_bytes-2.result.now ≡ hundredths_word c.args.game.now.standing.komi =
    c.as_bytes-2.ensures.value ∙ c.deref.ensures.0 ∙ c.hundredths_text.ensures
    ∙ ap hundredths_word (back ∙ c.komi.ensures) in
    let lines : c.as_bytes.result.now ≡ decimal c.args.game.now.standing.lines =
    c.as_bytes.ensures.value ∙ c.format.ensures.text ∙ ap decimal (c.lines.ensures.value ∙ c.size.ensures.lines) in
    writes_writes c.put.ensures (writes_writes (rw lines at c.put-2.ensures)
    (writes_writes c.put-3.ensures (rw komi at c.put-4.ensures)))
