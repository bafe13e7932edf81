use Rattle.std.proofs.Common.{arith, ◌≡◌, ◌∙◌, ap, w64}
use Rattle.std.proofs.lemmas.Int.{ints}
use mir.Val.{of_z, to_z}
use Rattle.go_board.specs.lemmas.Writing.{writes_writes}
use Rattle.go_game.specs.Scores.{hundredths_word}
use Rattle.goref_results.proofs.diagram.put_setting.Goals as goal

pub returns : goal.returns
returns g c =
    let back : to_z w64 (of_z w64 c.komi.result) ≡ c.komi.result = omega (arith, ints, c.komi.type_inv) in
    let komi : c.as_bytes.result.now ≡ hundredths_word c.args.game.now.standing.komi =
    c.as_bytes.ensures.value ∙ c.deref.ensures.0 ∙ c.hundredths_text.ensures
    ∙ ap hundredths_word (back ∙ c.komi.ensures) in
    writes_writes c.put.ensures (writes_writes
    (rw (c.from.ensures, c.lines.ensures.value, c.size.ensures.lines) at c.put_number.ensures)
    (writes_writes c.put-2.ensures (rw komi at c.put-3.ensures)))
