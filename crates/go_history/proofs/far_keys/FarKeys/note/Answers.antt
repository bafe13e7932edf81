use Rattle.std.specs.Map.{lookup}
use Rattle.std.proofs.Common.{◌≡◌, ◌∙◌, ℕ, List, Option, None, Some, ap, cond, sym}
use Rattle.go_history.specs.declared.key.Key.{Key}
use Rattle.go_history.specs.declared.hashed.Hashed.{Hashed}
use Rattle.go_history.specs.Keys.{key_eq}
use Rattle.go_history.proofs.Apart.{apart_after, in_first_only, in_further_only, swapped}
use Rattle.go_history.proofs.Noting.{if_ok, in_first, in_further, noted_first, noted_further}
use Rattle.go_history.proofs.far_keys.FarKeys.note.Goals as goal

pub returns-in-Some-get-clause-known : goal.returns-in-Some-get-clause-known
returns-in-Some-get-clause-known g c =
    let key : c.new-hashed.result.key ≡ c.args.key.now = ap (λ (r : Hashed). r.key) c.new-hashed.ensures in
    in_further_only c.self.inside.narrow.noted c.self.inside.wide.noted c.args.key.now c.in-Some-get.known
    c.self.invariant.2 (sym c.in-Some-get.is ∙ c.get.ensures
    ∙ ap (λ (k : Key). lookup (key_eq k) c.self.inside.wide.noted) key)
    ∙ ap (λ (v : List (Key × ℕ)). lookup (key_eq c.args.key.now) v) c.self.view_is

pub returns-in-Some-clause-known : goal.returns-in-Some-clause-known
returns-in-Some-clause-known g c =
    let key : c.new-hashed.result.key ≡ c.args.key.now = ap (λ (r : Hashed). r.key) c.new-hashed.ensures in
    let lacks : lookup (key_eq c.args.key.now) c.self.inside.wide.noted ≡ None =
    sym (ap (λ (k : Key). lookup (key_eq k) c.self.inside.wide.noted) key) ∙ sym c.get.ensures
    ∙ c.in_default-get.is in
    if_ok (λ (known : Option ℕ). known ≡ lookup (key_eq c.new-hashed.result.key) c.self.inside.narrow.noted)
    (λ (known : Option ℕ). known ≡ lookup (key_eq c.args.key.now) c.args.self.now)
    (λ known is. is ∙ ap (λ (k : Key). lookup (key_eq k) c.self.inside.narrow.noted) key
    ∙ in_first_only c.self.inside.narrow.noted c.self.inside.wide.noted c.args.key.now lacks
    ∙ ap (λ (v : List (Key × ℕ)). lookup (key_eq c.args.key.now) v) c.self.view_is) c.note.result
    c.note.ensures.known

pub returns-in-Some-clause-noted : goal.returns-in-Some-clause-noted
returns-in-Some-clause-noted g c is q =
    let key : c.new-hashed.result.key ≡ c.args.key.now = ap (λ (r : Hashed). r.key) c.new-hashed.ensures in
    noted_first c.self.inside.narrow.noted c.note.new.self.noted c.self.inside.wide.noted c.args.key.now c.args.number
    (λ q. c.note.ensures.noted is q
    ∙ ap (λ (k : Key). cond (key_eq k q) (Some c.args.number) (lookup (key_eq q) c.self.inside.narrow.noted))
    key) q ∙ ap (λ (v : List (Key × ℕ)).
    cond (key_eq c.args.key.now q) (Some c.args.number) (lookup (key_eq q) v)) c.self.view_is

pub returns-in-Some-get-2-clause-known : goal.returns-in-Some-get-2-clause-known
returns-in-Some-get-2-clause-known g c =
    let key : c.new-hashed.result.key ≡ c.args.key.now = ap (λ (r : Hashed). r.key) c.new-hashed.ensures in
    in_first c.self.inside.narrow.noted c.self.inside.wide.noted c.args.key.now c.in-Some-get-2.known
    (sym c.in-Some-get-2.is ∙ c.get-2.ensures ∙ ap (λ (k : Key). lookup (key_eq k) c.self.inside.narrow.noted) key)
    ∙ ap (λ (v : List (Key × ℕ)). lookup (key_eq c.args.key.now) v) c.self.view_is

pub returns-clause-known : goal.returns-clause-known
returns-clause-known g c =
    let key : c.new-hashed.result.key ≡ c.args.key.now = ap (λ (r : Hashed). r.key) c.new-hashed.ensures in
    let lacks : lookup (key_eq c.args.key.now) c.self.inside.narrow.noted ≡ None =
    sym (ap (λ (k : Key). lookup (key_eq k) c.self.inside.narrow.noted) key) ∙ sym c.get-2.ensures
    ∙ c.in_default-get-2.is in
    if_ok (λ (known : Option ℕ). known ≡ lookup (key_eq c.new-hashed.result.key) c.self.inside.wide.noted)
    (λ (known : Option ℕ). known ≡ lookup (key_eq c.args.key.now) c.args.self.now)
    (λ known is. is ∙ ap (λ (k : Key). lookup (key_eq k) c.self.inside.wide.noted) key
    ∙ in_further c.self.inside.narrow.noted c.self.inside.wide.noted c.args.key.now lacks
    ∙ ap (λ (v : List (Key × ℕ)). lookup (key_eq c.args.key.now) v) c.self.view_is) c.note-2.result
    c.note-2.ensures.known

pub returns-clause-noted : goal.returns-clause-noted
returns-clause-noted g c is q =
    let key : c.new-hashed.result.key ≡ c.args.key.now = ap (λ (r : Hashed). r.key) c.new-hashed.ensures in
    let lacks : lookup (key_eq c.args.key.now) c.self.inside.narrow.noted ≡ None =
    sym (ap (λ (k : Key). lookup (key_eq k) c.self.inside.narrow.noted) key) ∙ sym c.get-2.ensures
    ∙ c.in_default-get-2.is in
    noted_further c.self.inside.narrow.noted c.self.inside.wide.noted c.note-2.new.self.noted c.args.key.now
    c.args.number lacks (λ q. c.note-2.ensures.noted is q
    ∙ ap (λ (k : Key). cond (key_eq k q) (Some c.args.number) (lookup (key_eq q) c.self.inside.wide.noted)) key)
    q ∙ ap (λ (v : List (Key × ℕ)).
    cond (key_eq c.args.key.now q) (Some c.args.number) (lookup (key_eq q) v)) c.self.view_is

pub invariant_of-self : goal.invariant_of-self
invariant_of-self g c =
    let key : c.new-hashed.result.key ≡ c.args.key.now = ap (λ (r : Hashed). r.key) c.new-hashed.ensures in
    let lacks : lookup (key_eq c.args.key.now) c.self.inside.wide.noted ≡ None =
    sym (ap (λ (k : Key). lookup (key_eq k) c.self.inside.wide.noted) key) ∙ sym c.get.ensures
    ∙ c.in_default-get.is in (
      c.note.ensures.width ∙ c.self.invariant.0,
      c.self.invariant.1,
      apart_after c.note.result c.self.inside.narrow c.note.new.self c.self.inside.wide.noted c.args.key.now
          c.args.number c.self.invariant.2 lacks
          (λ is q. c.note.ensures.noted is q
          ∙ ap (λ (k : Key). cond (key_eq k q) (Some c.args.number)
          (lookup (key_eq q) c.self.inside.narrow.noted)) key) c.note.ensures.stood c.note.ensures.err,
    )

pub invariant_of-self-2 : goal.invariant_of-self-2
invariant_of-self-2 g c =
    let key : c.new-hashed.result.key ≡ c.args.key.now = ap (λ (r : Hashed). r.key) c.new-hashed.ensures in
    let lacks : lookup (key_eq c.args.key.now) c.self.inside.narrow.noted ≡ None =
    sym (ap (λ (k : Key). lookup (key_eq k) c.self.inside.narrow.noted) key) ∙ sym c.get-2.ensures
    ∙ c.in_default-get-2.is in (
      c.self.invariant.0,
      c.note-2.ensures.width ∙ c.self.invariant.1,
      swapped c.note-2.new.self.noted c.self.inside.narrow.noted
          (apart_after c.note-2.result c.self.inside.wide c.note-2.new.self c.self.inside.narrow.noted c.args.key.now
          c.args.number (swapped c.self.inside.narrow.noted c.self.inside.wide.noted c.self.invariant.2) lacks
          (λ is q. c.note-2.ensures.noted is q
          ∙ ap (λ (k : Key). cond (key_eq k q) (Some c.args.number)
          (lookup (key_eq q) c.self.inside.wide.noted)) key) c.note-2.ensures.stood
          c.note-2.ensures.err),
    )
