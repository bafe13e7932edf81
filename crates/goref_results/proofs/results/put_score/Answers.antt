use Rattle.std.proofs.Common.{arith, ◌≡◌, ◌∙◌, sym, ap, w64}
use Rattle.std.proofs.lemmas.Int.{ints}
use mir.Val.{of_z, to_z}
use Rattle.go_board.specs.lemmas.Writing.{writes_then}
use Rattle.go_game.specs.Scores.{margin_of, score_word}
use Rattle.goref_results.proofs.Listing.{result_text-some, score_some}
use Rattle.goref_results.proofs.results.put_score.Goals as goal

pub returns : goal.returns
returns g c =
    let margin = margin_of c.args.game.now.standing in
    let back : to_z w64 (of_z w64 c.margin.result) ≡ c.margin.result = omega (arith, ints, c.margin.type_inv) in
    let score : c.as_bytes.result.now ≡ score_word margin = c.as_bytes.ensures.value ∙ c.deref.ensures.0
    ∙ c.score_text.ensures ∙ ap score_word (back ∙ c.margin.ensures) in
    writes_then _ c.put.ensures (rw score at c.put-2.ensures)
    (sym (result_text-some (score_word margin) (score_some margin)))
