use Rattle.std.specs.Option.{option_eq}
use Rattle.std.proofs.Common.{◌∙◌, nat_eq, Some, ap, refl, sym}
use Rattle.go_history.proofs.Noting.{as_it_was, without_it}
use Rattle.go_history.proofs.history.History.forget_at.Goals as goal

pub returns-then-eq : goal.returns-then-eq
returns-then-eq g c =
    let found = ap (λ o. option_eq nat_eq o (Some c.args.number)) (sym c.look_up_later.ensures) ∙ sym c.eq.ensures
    ∙ c.if-eq.true in (
      c.forget.ensures.0,
      λ q. c.forget.ensures.1 q ∙ without_it c.args.self.now c.args.key.now c.args.number found q,
    )

pub returns-else-eq : goal.returns-else-eq
returns-else-eq g c = (
  refl,
  as_it_was c.args.self.now c.args.key.now c.args.number
      (ap (λ o. option_eq nat_eq o (Some c.args.number)) (sym c.look_up_later.ensures) ∙ sym c.eq.ensures
      ∙ c.if-eq.false),
)
