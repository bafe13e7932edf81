use Rattle.std.specs.Map.{lookup}
use Rattle.std.proofs.Common.{◌≡◌, ◌-◌, ◌<◌, ◌∙◌, ℕ, List, None, ap, arith, cond, length, refl, rules, slice_index_or, subst, sym, true}
use Rattle.std.proofs.lemmas.Bool.{and_parts}
use Rattle.go_history.specs.Keys.{key_eq}
use Rattle.go_history.specs.declared.key.Key.{Key}
use Rattle.go_history.specs.declared.entries.Entry.{Entry}
use Rattle.go_history.specs.declared.hashed.Hashed.{Hashed}
use Rattle.go_history.specs.inner.Trees.{IsTree, IsFoundAt, TreeValue, noted, places_of, hashed, hashed_eq}
use Rattle.go_history.proofs.Noted.{none_taken, noted_less, noted_written, tree_written}
use Rattle.go_history.proofs.Places.{not_last, places_less}
use Rattle.go_history.proofs.Trees.{last_found}
use Rattle.go_history.proofs.key_tree.KeyTree.remove.Goals as goal

-- the last entry, whose key is this one
found_last : (entries : List Entry) (links : List ℕ) (k : Key) (r : Hashed) (d : Entry) → IsTree entries links →
    r ≡ hashed k → 0 < length entries → hashed_eq r (slice_index_or entries (length entries - 1) d).hashed ≡ true →
    IsFoundAt entries links k (length entries - 1) (slice_index_or entries (length entries - 1) d).link
found_last entries links k r d tree own some same =
    let same' : hashed_eq (hashed k) (slice_index_or entries (length entries - 1) d).hashed ≡ true =
    sym (ap (λ s. hashed_eq s (slice_index_or entries (length entries - 1) d).hashed) own) ∙ same in
    last_found entries links k d tree some (and_parts _ _ same').1

pub returns-then-is_last-clause-noted : goal.returns-then-is_last-clause-noted
returns-then-is_last-clause-noted g c q =
    let d : Entry = record { hashed = c.args.hashed.now; number = None; link = None } in
    let some : 0 < length c.self.inside.entries.list = search rules in
    let found = found_last c.self.inside.entries.list c.self.inside.links.items c.args.hashed.now.key
    c.args.hashed.now d c.self.invariant c.requires some (sym (c.is_last.ensures.same d some) ∙ c.if-is_last.true) in
    ap (λ es. lookup (key_eq q) (noted es)) c.pop.ensures.popped
    ∙ noted_less c.self.inside.entries.list c.self.inside.links.items c.args.hashed.now.key
    (length c.self.inside.entries.list - 1)
    (slice_index_or c.self.inside.entries.list (length c.self.inside.entries.list - 1) d).link d c.self.invariant found
    (omega (arith, found.within)) q
    ∙ ap (λ (v : TreeValue). cond (key_eq c.args.hashed.now.key q) None (lookup (key_eq q) v.noted)) c.self.view_is

pub invariant_of-self-in-Some : goal.invariant_of-self-in-Some
invariant_of-self-in-Some g c =
    let found = (rw (c.in-Some.is, c.deref-2.ensures.value) at c.find.ensures.found) in
    let d : Entry = record { hashed = c.args.hashed.now; number = None; link = None } in
    subst (λ es. IsTree es c.self.inside.links.items) (sym (c.set_number.ensures.list d))
    (tree_written c.self.inside.entries.list c.self.inside.links.items c.in-Some.at
    (record {
      hashed = (slice_index_or c.self.inside.entries.list c.in-Some.at d).hashed;
      number = None;
      link = (slice_index_or c.self.inside.entries.list c.in-Some.at d).link;
    }) d found.within refl refl
    c.self.invariant)

pub returns-in-Some-clause-noted : goal.returns-in-Some-clause-noted
returns-in-Some-clause-noted g c q =
    let found = (rw (c.in-Some.is, c.deref-2.ensures.value) at c.find.ensures.found) in
    let d : Entry = record { hashed = c.args.hashed.now; number = None; link = None } in
    ap (λ es. lookup (key_eq q) (noted es)) (c.set_number.ensures.list d)
    ∙ noted_written c.self.inside.entries.list c.self.inside.links.items c.args.hashed.now.key c.in-Some.at
    (record {
      hashed = (slice_index_or c.self.inside.entries.list c.in-Some.at d).hashed;
      number = None;
      link = (slice_index_or c.self.inside.entries.list c.in-Some.at d).link;
    }) d c.self.invariant
    found.within refl refl (found.same d) q
    ∙ ap (λ (v : TreeValue). cond (key_eq c.args.hashed.now.key q) None (lookup (key_eq q) v.noted)) c.self.view_is

pub returns-in_default-clause-noted : goal.returns-in_default-clause-noted
returns-in_default-clause-noted g c q =
    ap (λ (v : TreeValue). lookup (key_eq q) v.noted) (sym c.self.view_is)
    ∙ none_taken c.self.inside.entries.list c.self.inside.links.items c.args.hashed.now.key c.find.result.link
    (rw (c.in_default.is, c.deref-2.ensures.value) at c.find.ensures.none) q
    ∙ ap (λ (v : TreeValue). cond (key_eq c.args.hashed.now.key q) None (lookup (key_eq q) v.noted)) c.self.view_is

pub returns-then-is_last-clause-last : goal.returns-then-is_last-clause-last
returns-then-is_last-clause-last g c k places ends same =
    ap places_of c.pop.ensures.popped ∙ places_less c.self.inside.entries.list places k
    (ap (λ (v : TreeValue). v.places) c.self.view_is ∙ ends)

pub returns-in-Some-clause-last : goal.returns-in-Some-clause-last
returns-in-Some-clause-last g c k places ends same =
    let d : Entry = record { hashed = c.args.hashed.now; number = None; link = None } in
    absurd (not_last c.self.inside.entries.list c.self.inside.links.items c.args.hashed.now.key c.args.hashed.now places
    k d c.self.invariant c.requires (λ some. sym (c.is_last.ensures.same d some) ∙ c.if-is_last.false)
    (ap (λ (v : TreeValue). v.places) c.self.view_is ∙ ends) same)

pub returns-in_default-clause-last : goal.returns-in_default-clause-last
returns-in_default-clause-last g c k places ends same =
    let d : Entry = record { hashed = c.args.hashed.now; number = None; link = None } in
    absurd (not_last c.self.inside.entries.list c.self.inside.links.items c.args.hashed.now.key c.args.hashed.now places
    k d c.self.invariant c.requires (λ some. sym (c.is_last.ensures.same d some) ∙ c.if-is_last.false)
    (ap (λ (v : TreeValue). v.places) c.self.view_is ∙ ends) same)
