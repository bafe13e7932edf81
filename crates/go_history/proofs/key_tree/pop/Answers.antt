use Rattle.std.proofs.Common.{◌≡◌, ◌-◌, ◌*◌, ◌∙◌, ap, arith, length, length-take-le, subst, sym, take}
use Rattle.go_history.specs.inner.Trees.{IsTree}
use Rattle.go_history.proofs.Trees.{last_within, link_to_last, pruned_by}
use Rattle.go_history.proofs.key_tree.pop.Goals as goal

pub set_child-requires : goal.set_child-requires
set_child-requires g c =
    let leads = link_to_last c.args.entries.now.list c.args.links.now.items (c.len.result - 1) c.link-link.result
    c.requires.tree c.requires.some (omega (arith, c.len.ensures)) c.link-link.ensures in
    last_within c.args.entries.now.list c.args.links.now.items c.link-link.result c.requires.tree c.requires.some leads

pub returns-clause-tree : goal.returns-clause-tree
returns-clause-tree g c =
    let n = length c.args.entries.now.list - 1 in
    let leads = link_to_last c.args.entries.now.list c.args.links.now.items (c.len.result - 1) c.link-link.result
    c.requires.tree c.requires.some (omega (arith, c.len.ensures)) c.link-link.ensures in
    let count : c.len-2.result ≡ n = c.len-2.ensures ∙ ap length c.pop.ensures.list
    ∙ length-take-le n c.args.entries.now.list (omega arith) in
    subst (λ es. IsTree es c.truncate.new.self.items) (sym c.pop.ensures.list)
    (pruned_by c.args.entries.now.list c.args.links.now.items c.set_child.new.links.items c.truncate.new.self.items
    c.link-link.result c.requires.tree c.requires.some leads c.set_child.ensures.long c.set_child.ensures.others
    (c.truncate.ensures.items ∙ ap (λ k. take (5 * k) c.set_child.new.links.items) count))
