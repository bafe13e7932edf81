use Rattle.std.proofs.Common.{arith, ◌<◌, ◌∙◌, ℕ, Bool, List, ap, slice_set, sym}
use Rattle.go_board.specs.declared.size.TheConstants.{MAX_POINTS}
use Rattle.goref_results.specs.Marks.{marks_of}
use Rattle.goref_results.proofs.MarkBits.{one_left_out, one_put}
use Rattle.goref_results.proofs.marks.Plays.set.Goals as goal

pub returns-then-is_legal : goal.returns-then-is_legal
returns-then-is_legal c =
    let set = c.self.inside.points in
    let number = c.from-number.result in
    let low : number < MAX_POINTS = omega (arith, c.requires, c.from-number.ensures) in
    one_put set c.put.new.self number low c.put.ensures
    ∙ ap (λ b. slice_set (marks_of set) number b) (sym c.if-is_legal.true)
    ∙ ap (λ (k : ℕ). slice_set (marks_of set) k c.args.is_legal) c.from-number.ensures
    ∙ ap (λ (marks : List Bool). slice_set marks c.args.number c.args.is_legal) c.self.view_is

pub returns-else-is_legal : goal.returns-else-is_legal
returns-else-is_legal c =
    let set = c.self.inside.points in
    let number = c.from-number.result in
    let low : number < MAX_POINTS = omega (arith, c.requires, c.from-number.ensures) in
    one_left_out set c.leave_out.new.self number low c.leave_out.ensures
    ∙ ap (λ b. slice_set (marks_of set) number b) (sym c.if-is_legal.false)
    ∙ ap (λ (k : ℕ). slice_set (marks_of set) k c.args.is_legal) c.from-number.ensures
    ∙ ap (λ (marks : List Bool). slice_set marks c.args.number c.args.is_legal) c.self.view_is
