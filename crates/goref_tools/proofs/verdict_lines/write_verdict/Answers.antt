use Rattle.std.proofs.Common.{arith, ◌≡◌, ◌∙◌, ap, rules, w64}
use Rattle.std.proofs.lemmas.Int.{ints}
use mir.Val.{of_z, to_z}
use Rattle.std.specs.Prelude.{decimal}
use Rattle.go_board.specs.lemmas.Writing.{writes_writes, finished_pen}
use Rattle.go_game.specs.Scores.{score_word}
use Rattle.goref_tools.proofs.verdict_lines.write_verdict.Goals as goal

pub returns-clause-sent : goal.returns-clause-sent
returns-clause-sent g c =
    let back : to_z w64 (of_z w64 c.args.verdict.margin) ≡ c.args.verdict.margin = omega (arith, ints, c.well_formed) in
    let moves : c.as_bytes-moves.result.now ≡ decimal c.args.verdict.moves = c.as_bytes-moves.ensures.value
    ∙ c.format.ensures.text in
    let score : c.as_bytes.result.now ≡ score_word c.args.verdict.margin =
    c.as_bytes.ensures.value ∙ c.deref.ensures.0 ∙ c.score_text-score.ensures ∙ ap score_word back in
    (finished_pen (writes_writes (rw moves at c.put_line.ensures)
    (writes_writes (rw score at c.put_line-2.ensures) (rw c.stated_word.ensures at c.put_line-3.ensures)))
    c.new-pen.ensures.fresh c.new-pen.ensures.writer (search rules) c.finish.result c.finish.ensures.value).0

pub returns-clause-failures : goal.returns-clause-failures
returns-clause-failures g c =
    (finished_pen (writes_writes c.put_line.ensures (writes_writes c.put_line-2.ensures c.put_line-3.ensures))
    c.new-pen.ensures.fresh c.new-pen.ensures.writer (search rules) c.finish.result c.finish.ensures.value).1
