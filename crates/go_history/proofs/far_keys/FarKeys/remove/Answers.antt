use Rattle.std.specs.Map.{lookup}
use Rattle.std.proofs.Common.{◌≡◌, ◌∙◌, ℕ, List, None, ap, cond}
use Rattle.go_history.specs.declared.key.Key.{Key}
use Rattle.go_history.specs.declared.hashed.Hashed.{Hashed}
use Rattle.go_history.specs.Keys.{key_eq}
use Rattle.go_history.proofs.Apart.{apart_without}
use Rattle.go_history.proofs.Noting.{forgotten}
use Rattle.go_history.proofs.far_keys.FarKeys.remove.Goals as goal

pub invariant_of-self : goal.invariant_of-self
invariant_of-self g c =
    let key : c.new-hashed.result.key ≡ c.args.key.now = ap (λ (r : Hashed). r.key) c.new-hashed.ensures in (
      c.remove.ensures.width ∙ c.self.invariant.0,
      c.remove-2.ensures.width ∙ c.self.invariant.1,
      apart_without c.self.inside.narrow.noted c.remove.new.self.noted c.self.inside.wide.noted
          c.remove-2.new.self.noted c.args.key.now c.self.invariant.2
          (λ q. c.remove.ensures.noted q ∙ ap
          (λ (k : Key). cond (key_eq k q) None (lookup (key_eq q) c.self.inside.narrow.noted)) key)
          (λ q. c.remove-2.ensures.noted q
          ∙ ap (λ (k : Key). cond (key_eq k q) None (lookup (key_eq q) c.self.inside.wide.noted)) key),
    )

pub returns : goal.returns
returns g c q =
    let key : c.new-hashed.result.key ≡ c.args.key.now = ap (λ (r : Hashed). r.key) c.new-hashed.ensures in
    forgotten c.self.inside.narrow.noted c.remove.new.self.noted c.self.inside.wide.noted c.remove-2.new.self.noted
    c.args.key.now (λ q. c.remove.ensures.noted q
    ∙ ap (λ (k : Key). cond (key_eq k q) None (lookup (key_eq q) c.self.inside.narrow.noted)) key)
    (λ q. c.remove-2.ensures.noted q
    ∙ ap (λ (k : Key). cond (key_eq k q) None (lookup (key_eq q) c.self.inside.wide.noted)) key) q
    ∙ ap (λ (v : List (Key × ℕ)). cond (key_eq c.args.key.now q) None (lookup (key_eq q) v)) c.self.view_is
