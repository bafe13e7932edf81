use Rattle.std.proofs.Common.{◌≡◌, ◌++◌, ◌∷◌, [], ◌-◌, ◌∙◌, Some, ap, arith, length, length-append, refl, rules, subst, sym}
use Rattle.go_history.specs.declared.entries.Entry.{Entry}
use Rattle.go_history.specs.inner.Trees.{IsTree}
use Rattle.go_history.proofs.Trees.{inserted_by, link_within}
use Rattle.go_history.proofs.key_tree.insert.Goals as goal

pub set_child-requires : goal.set_child-requires
set_child-requires g c =
    let longer : c.extend_from_slice-extended.new.self.items ≡ c.args.links.now.items
    ++ c.args.hashed.now.hash ∷ 0 ∷ 0 ∷ 0 ∷ 0 ∷ [] = search rules in
    let more = ap length longer ∙ length-append c.args.links.now.items (c.args.hashed.now.hash ∷ 0 ∷ 0 ∷ 0 ∷ 0 ∷ []) in
    link_within c.args.entries.now.list c.args.links.now.items c.args.hashed.now.key c.args.link
    (length c.extend_from_slice-extended.new.self.items) (omega (arith, more)) c.requires.tree c.requires.none

pub returns-clause-tree : goal.returns-clause-tree
returns-clause-tree g c =
    let x : Entry = record { hashed = c.args.hashed.now; number = Some c.args.number; link = c.args.link } in
    let longer : c.extend_from_slice-extended.new.self.items ≡ c.args.links.now.items
    ++ c.args.hashed.now.hash ∷ 0 ∷ 0 ∷ 0 ∷ 0 ∷ [] = search rules in
    let is : c.push.new.self.list ≡ c.args.entries.now.list ++ x ∷ [] = search rules in
    let count : c.len.result - 1 ≡ length c.args.entries.now.list =
    omega (arith, c.len.ensures, ap length is, length-append c.args.entries.now.list (x ∷ [])) in
    subst (λ es. IsTree es c.set_child.new.links.items) (sym is)
    (inserted_by c.args.entries.now.list c.args.links.now.items c.extend_from_slice-extended.new.self.items
    c.set_child.new.links.items x c.args.link c.requires.tree c.requires.own c.requires.none longer
    c.set_child.ensures.long c.set_child.ensures.others (λ k to. c.set_child.ensures.to k to ∙ count) refl)
