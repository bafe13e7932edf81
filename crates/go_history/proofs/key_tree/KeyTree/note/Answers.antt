use Rattle.std.specs.Map.{lookup}
use Rattle.std.proofs.Common.{◌≡◌, ◌∙◌, ◌++◌, ◌∷◌, [], None, Some, ap, cond, inl, refl, rules, slice_index_or, subst, sym}
use Rattle.go_history.specs.Keys.{key_eq}
use Rattle.go_history.specs.declared.entries.Entry.{Entry}
use Rattle.go_history.specs.declared.hashed.Hashed.{Hashed}
use Rattle.go_history.specs.inner.Trees.{IsTree, TreeValue, noted, places_of, hashed}
use Rattle.go_history.proofs.Noted.{noted_more, noted_written, nothing_is, number_is, tree_written}
use Rattle.go_history.proofs.Places.{places_written}
use Rattle.go_history.proofs.key_tree.KeyTree.note.Goals as goal

pub invariant_of-self-then-is_none : goal.invariant_of-self-then-is_none
invariant_of-self-then-is_none g c =
    let found = (rw (c.in-Some.is, c.deref.ensures.value) at c.find-place.ensures.found) in
    let d : Entry = record { hashed = c.args.hashed.now; number = None; link = None } in
    subst (λ es. IsTree es c.self.inside.links.items) (sym (c.set_number.ensures.list d))
    (tree_written c.self.inside.entries.list c.self.inside.links.items c.in-Some.at
    (record {
      hashed = (slice_index_or c.self.inside.entries.list c.in-Some.at d).hashed;
      number =
          Some c.args.number;
      link = (slice_index_or c.self.inside.entries.list c.in-Some.at d).link;
    }) d
    found.within refl refl c.self.invariant)

pub returns-then-is_none-clause-known : goal.returns-then-is_none-clause-known
returns-then-is_none-clause-known g c =
    let found = (rw (c.in-Some.is, c.deref.ensures.value) at c.find-place.ensures.found) in
    let d : Entry = record { hashed = c.args.hashed.now; number = None; link = None } in
    c.number-known.ensures d ∙ number_is c.self.inside.entries.list c.self.inside.links.items c.args.hashed.now.key
    c.in-Some.at c.find-place.result.link d c.self.invariant found
    ∙ ap (λ (v : TreeValue). lookup (key_eq c.args.hashed.now.key) v.noted) c.self.view_is

pub returns-then-is_none-clause-noted : goal.returns-then-is_none-clause-noted
returns-then-is_none-clause-noted g c is q =
    let found = (rw (c.in-Some.is, c.deref.ensures.value) at c.find-place.ensures.found) in
    let d : Entry = record { hashed = c.args.hashed.now; number = None; link = None } in
    ap (λ es. lookup (key_eq q) (noted es)) (c.set_number.ensures.list d)
    ∙ noted_written c.self.inside.entries.list c.self.inside.links.items c.args.hashed.now.key c.in-Some.at
    (record {
      hashed = (slice_index_or c.self.inside.entries.list c.in-Some.at d).hashed;
      number =
          Some c.args.number;
      link = (slice_index_or c.self.inside.entries.list c.in-Some.at d).link;
    }) d
    c.self.invariant found.within refl refl (found.same d) q
    ∙ ap (λ (v : TreeValue). cond (key_eq c.args.hashed.now.key q) (Some c.args.number) (lookup (key_eq q) v.noted))
    c.self.view_is

pub returns-else-is_none-clause-known : goal.returns-else-is_none-clause-known
returns-else-is_none-clause-known g c =
    let found = (rw (c.in-Some.is, c.deref.ensures.value) at c.find-place.ensures.found) in
    let d : Entry = record { hashed = c.args.hashed.now; number = None; link = None } in
    c.number-known.ensures d ∙ number_is c.self.inside.entries.list c.self.inside.links.items c.args.hashed.now.key
    c.in-Some.at c.find-place.result.link d c.self.invariant found
    ∙ ap (λ (v : TreeValue). lookup (key_eq c.args.hashed.now.key) v.noted) c.self.view_is

pub returns-in_default-clause-known : goal.returns-in_default-clause-known
returns-in_default-clause-known g c =
    nothing_is c.self.inside.entries.list c.self.inside.links.items c.args.hashed.now.key c.find-place.result.link
    (rw (c.in_default.is, c.deref.ensures.value) at c.find-place.ensures.none)
    ∙ ap (λ (v : TreeValue). lookup (key_eq c.args.hashed.now.key) v.noted) c.self.view_is

pub returns-in_default-clause-noted : goal.returns-in_default-clause-noted
returns-in_default-clause-noted g c is q =
    let missing = (rw (c.in_default.is, c.deref.ensures.value) at c.find-place.ensures.none) in
    let more : c.insert.new.entries.list ≡ c.self.inside.entries.list
    ++ record { hashed = c.args.hashed.now; number = Some c.args.number; link = c.find-place.result.link } ∷ [] =
    search rules in
    ap (λ es. lookup (key_eq q) (noted es))
    (more ∙ ap (λ (r : Hashed). c.self.inside.entries.list
    ++ record { hashed = r; number = Some c.args.number; link = c.find-place.result.link } ∷ []) c.requires.own)
    ∙ noted_more c.self.inside.entries.list
    (record { hashed = hashed c.args.hashed.now.key; number = Some c.args.number; link = c.find-place.result.link })
    c.args.number refl (sym (nothing_is c.self.inside.entries.list c.self.inside.links.items
    c.args.hashed.now.key c.find-place.result.link missing)) q
    ∙ ap (λ (v : TreeValue). cond (key_eq c.args.hashed.now.key q) (Some c.args.number) (lookup (key_eq q) v.noted))
    c.self.view_is

pub returns-then-is_none-clause-places : goal.returns-then-is_none-clause-places
returns-then-is_none-clause-places g c =
    let d : Entry = record { hashed = c.args.hashed.now; number = None; link = None } in
    inl (ap places_of (c.set_number.ensures.list d)
    ∙ places_written c.self.inside.entries.list c.in-Some.at
    (record {
      hashed = (slice_index_or c.self.inside.entries.list c.in-Some.at d).hashed;
      number =
          Some c.args.number;
      link = (slice_index_or c.self.inside.entries.list c.in-Some.at d).link;
    }) d refl
    ∙ ap (λ (v : TreeValue). v.places) c.self.view_is)
