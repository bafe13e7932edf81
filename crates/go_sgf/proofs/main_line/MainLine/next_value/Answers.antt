use Rattle.std.proofs.Common.{◌≡◌, ◌∷◌, ◌∙◌, ap, sym, subst, ℕ, List, [], length, length-append, arith}
use Rattle.go_sgf.specs.MainLine.{IsLeft}
use Rattle.go_sgf.specs.Spelling.{without_space}
use Rattle.go_sgf.proofs.LineWalks.{value_ended, value_next, value_none}
use Rattle.go_sgf.proofs.Parts.{length-after_space}
use Rattle.go_sgf.proofs.main_line.MainLine.next_value.Goals as goal

pub returns-in_err-inside-clause-next : goal.returns-in_err-inside-clause-next
returns-in_err-inside-clause-next c = λ vs ps ns l.
    let start : c.after_space-start.result.now ≡ without_space c.args.self.now =
    rw c.self.view_is at c.after_space-start.ensures in
    rw c.from_residual.ensures
    (subst (λ (b : List ℕ). (vs ≡ []) × IsLeft b [] ps ns) (sym start)
    (value_none c.args.self.now vs ps ns l
    (rw (c.after_space-start.ensures, c.self.view_is) at c.in_err-inside.ensures.other)))

pub returns-in_err-inside-clause-none : goal.returns-in_err-inside-clause-none
returns-in_err-inside-clause-none c = rw c.from_residual.ensures (rw c.self.view_is at c.after_space-start.ensures)

pub returns-in_err-inside-clause-onward : goal.returns-in_err-inside-clause-onward
returns-in_err-inside-clause-onward c =
    let start : c.after_space-start.result.now ≡ without_space c.args.self.now =
    rw c.self.view_is at c.after_space-start.ensures in
    omega (arith, length-after_space c.args.self.now, ap length start)

pub returns-in_err-value-clause-next : goal.returns-in_err-value-clause-next
returns-in_err-value-clause-next c = λ vs ps ns l.
    let start : c.after_space-start.result.now ≡ without_space c.args.self.now =
    rw c.self.view_is at c.after_space-start.ensures in
    absurd (value_ended c.args.self.now c.in_ok-inside.inside.now vs ps ns l
    (sym start ∙ c.in_ok-inside.ensures.stripped) c.in_err-value.ensures.no_end)

pub returns-in_err-value-clause-none : goal.returns-in_err-value-clause-none
returns-in_err-value-clause-none c =
    rw c.from_residual-in_err-value.ensures (rw c.self.view_is at c.after_space-start.ensures)

pub returns-in_err-value-clause-onward : goal.returns-in_err-value-clause-onward
returns-in_err-value-clause-onward c =
    let start : c.after_space-start.result.now ≡ without_space c.args.self.now =
    rw c.self.view_is at c.after_space-start.ensures in
    omega (arith, length-after_space c.args.self.now, ap length start)

pub returns-clause-next : goal.returns-clause-next
returns-clause-next c = λ vs ps ns l.
    let start : c.after_space-start.result.now ≡ without_space c.args.self.now =
    rw c.self.view_is at c.after_space-start.ensures in
    value_next c.args.self.now c.in_ok-inside.inside.now c.in_ok-value.value.now c.in_ok-value.after.now vs ps ns l
    (sym start ∙ c.in_ok-inside.ensures.stripped) c.in_ok-value.ensures.whole c.in_ok-value.ensures.inside

pub returns-clause-shorter : goal.returns-clause-shorter
returns-clause-shorter c =
    let start : c.after_space-start.result.now ≡ without_space c.args.self.now =
    rw c.self.view_is at c.after_space-start.ensures in
    omega (
      arith,
      length-after_space c.args.self.now,
      ap length (sym start ∙ c.in_ok-inside.ensures.stripped),
      ap length c.in_ok-value.ensures.whole,
      length-append c.in_ok-value.value.now (93 ∷ c.in_ok-value.after.now),
    )

pub returns-clause-onward : goal.returns-clause-onward
returns-clause-onward c =
    let start : c.after_space-start.result.now ≡ without_space c.args.self.now =
    rw c.self.view_is at c.after_space-start.ensures in
    omega (
      arith,
      length-after_space c.args.self.now,
      ap length (sym start ∙ c.in_ok-inside.ensures.stripped),
      ap length c.in_ok-value.ensures.whole,
      length-append c.in_ok-value.value.now (93 ∷ c.in_ok-value.after.now),
    )
