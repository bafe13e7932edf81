use Rattle.std.proofs.Common.{◌≡◌, ◌∙◌, ℕ, List, Option, decimal, ◌+◌, refl, ap}
use Rattle.std.specs.List.{flat_map}
use Rattle.go_board.specs.declared.point.Point.{Point}
use Rattle.go_board.specs.Vertices.{letter_of_column}
use Rattle.go_game.specs.Handicaps.{fixed}
use Rattle.goref_results.specs.Places.{places_text, point_word}
use Rattle.goref_results.specs.inner.Texts.{spaced_point}
use Rattle.goref_results.specs.Results.{result_text}
use Rattle.goref_results.proofs.Listing.{result_spaced}
use Rattle.goref_results.proofs.results.put_places.Goals as goal

pub returns-in-Some : goal.returns-in-Some
returns-in-Some g c =
    let n = c.args.game.now.standing.lines in
    let points = c.in-Some.points.items in
    let text : flat_map spaced_point points ≡ result_text (places_text (fixed n c.args.number)) =
    result_spaced point_word (λ p. (letter_of_column p.col, decimal (p.row + 1), refl)) points
    ∙ ap (λ (places : Option (List Point)). result_text (places_text places))
    (c.in-Some.ensures.points ∙ ap (λ (m : ℕ). fixed m c.args.number) c.size.ensures.lines) in
    rw (c.as_slice.ensures.value, text) at c.put_points.ensures
