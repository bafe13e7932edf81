use Rattle.std.proofs.Common.{◌∙◌, ℕ, Bool, List, false, ap, slice_index_or, sym}
use Rattle.go_board.specs.PointSets.{has_point}
use Rattle.goref_results.proofs.MarkBits.{mark_is, marked}
use Rattle.goref_results.proofs.marks.Plays.has.Goals as goal

pub returns : goal.returns
returns c =
    let set = c.self.inside.points in
    marked c.has.result set c.from.result c.has.ensures
    ∙ ap (λ (k : ℕ). has_point set k) c.from.ensures
    ∙ sym (mark_is set c.args.number c.requires)
    ∙ ap (λ (marks : List Bool). slice_index_or marks c.args.number false) c.self.view_is
