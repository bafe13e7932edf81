use Rattle.std.proofs.Common.{◌≡◌, ◌≤◌, ◌++◌, ◌∙◌, true, ap, sym, subst, ℕ, List, [], length, length-append, arith}
use Rattle.go_sgf.specs.MainLine.{IsLeft}
use Rattle.go_sgf.specs.Spelling.{without_space}
use Rattle.go_sgf.specs.inner.Reads.{is_letter_first}
use Rattle.go_sgf.proofs.LineWalks.{name_next, name_none, name_some}
use Rattle.go_sgf.proofs.Parts.{length-after_space}
use Rattle.go_sgf.proofs.main_line.MainLine.name_here.Goals as goal

pub returns-then-not-begins_letter-clause-next : goal.returns-then-not-begins_letter-clause-next
returns-then-not-begins_letter-clause-next c = λ ps ns l.
    let here : c.after_space-here.result.now ≡ without_space c.args.self.now =
    rw c.self.view_is at c.after_space-here.ensures in
    subst (λ (b : List ℕ). (ps ≡ []) × IsLeft b [] [] ns) (sym here)
    (name_none c.args.self.now ps ns l
    (sym (rw (c.after_space-here.ensures, c.self.view_is) at c.if-not-begins_letter.ensures)))

pub returns-then-not-begins_letter-clause-none : goal.returns-then-not-begins_letter-clause-none
returns-then-not-begins_letter-clause-none c = rw c.self.view_is at c.after_space-here.ensures

pub returns-then-not-begins_letter-clause-onward : goal.returns-then-not-begins_letter-clause-onward
returns-then-not-begins_letter-clause-onward c =
    let here : c.after_space-here.result.now ≡ without_space c.args.self.now =
    rw c.self.view_is at c.after_space-here.ensures in
    omega (arith, length-after_space c.args.self.now, ap length here)

pub returns-clause-next : goal.returns-clause-next
returns-clause-next c = λ ps ns l.
    let here : c.after_space-here.result.now ≡ without_space c.args.self.now =
    rw c.self.view_is at c.after_space-here.ensures in
    name_next c.args.self.now c.name_at.result.0.now c.name_at.result.1.now ps ns l
    (sym here ∙ c.name_at.ensures.whole) c.name_at.ensures.letters c.name_at.ensures.stopped
    (sym (rw (c.after_space-here.ensures, c.self.view_is) at c.if-not-begins_letter.ensures))

pub returns-clause-shorter : goal.returns-clause-shorter
returns-clause-shorter c =
    let here : c.after_space-here.result.now ≡ without_space c.args.self.now =
    rw c.self.view_is at c.after_space-here.ensures in
    let name = c.name_at.result.0.now in
    let after = c.name_at.result.1.now in
    let letter : is_letter_first (name ++ after) ≡ true =
    subst (λ (b : List ℕ). is_letter_first b ≡ true) c.name_at.ensures.whole (sym c.if-not-begins_letter.ensures) in
    let some : 1 ≤ length name = name_some name after letter c.name_at.ensures.stopped in
    omega (
      arith,
      length-after_space c.args.self.now,
      ap length (sym here ∙ c.name_at.ensures.whole),
      length-append name after,
    )

pub returns-clause-onward : goal.returns-clause-onward
returns-clause-onward c =
    let here : c.after_space-here.result.now ≡ without_space c.args.self.now =
    rw c.self.view_is at c.after_space-here.ensures in
    let name = c.name_at.result.0.now in
    let after = c.name_at.result.1.now in
    omega (
      arith,
      length-after_space c.args.self.now,
      ap length (sym here ∙ c.name_at.ensures.whole),
      length-append name after,
    )
