use Rattle.std.proofs.Common.{arith, ◌∙◌, ◌*◌, ◌≤◌, ◌<◌, Bool, List, false, ap, slice_index_or, sym}
use Rattle.go_board.specs.declared.size.TheConstants.{MAX_POINTS}
use Rattle.go_board.specs.lemmas.PointSets.{left-all}
use Rattle.go_board.specs.lemmas.Squares.{square-le}
use Rattle.goref_results.proofs.MarkBits.{mark_is}
use Rattle.goref_results.proofs.marks.Plays.points.Goals as goal

pub returns : goal.returns
returns c =
    let set = c.self.inside.points in
    let n = c.args.size in
    let square : n * n ≤ MAX_POINTS = square-le n (omega (arith, c.well_formed)) in
    c.points.ensures
    ∙ left-all n set (λ p. slice_index_or c.args.self.now p false)
    (λ p on. (let below : p < MAX_POINTS = omega (arith, on, square) in sym (mark_is set p below)
    ∙ ap (λ (marks : List Bool). slice_index_or marks p false) c.self.view_is))
