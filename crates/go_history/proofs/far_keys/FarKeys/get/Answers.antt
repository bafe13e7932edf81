use Rattle.std.specs.Map.{lookup}
use Rattle.std.proofs.Common.{◌≡◌, ◌∙◌, ℕ, List, ap, sym}
use Rattle.go_history.specs.declared.key.Key.{Key}
use Rattle.go_history.specs.declared.hashed.Hashed.{Hashed}
use Rattle.go_history.specs.Keys.{key_eq}
use Rattle.go_history.proofs.Noting.{in_first, in_further}
use Rattle.go_history.proofs.far_keys.FarKeys.get.Goals as goal

pub returns-in-Some : goal.returns-in-Some
returns-in-Some g c =
    let key : c.new-hashed.result.key ≡ c.args.key.now = ap (λ (r : Hashed). r.key) c.new-hashed.ensures in
    in_first c.self.inside.narrow.noted c.self.inside.wide.noted c.args.key.now c.in-Some.number
    (sym c.in-Some.is ∙ c.get.ensures ∙ ap (λ (k : Key). lookup (key_eq k) c.self.inside.narrow.noted) key)
    ∙ ap (λ (v : List (Key × ℕ)). lookup (key_eq c.args.key.now) v) c.self.view_is

pub returns : goal.returns
returns g c =
    let key : c.new-hashed.result.key ≡ c.args.key.now = ap (λ (r : Hashed). r.key) c.new-hashed.ensures in
    c.get-2.ensures ∙ ap (λ (k : Key). lookup (key_eq k) c.self.inside.wide.noted) key
    ∙ in_further c.self.inside.narrow.noted c.self.inside.wide.noted c.args.key.now
    (sym (ap (λ (k : Key). lookup (key_eq k) c.self.inside.narrow.noted) key) ∙ sym c.get.ensures
    ∙ c.in_default.is) ∙ ap (λ (v : List (Key × ℕ)). lookup (key_eq c.args.key.now) v) c.self.view_is
