use Rattle.std.specs.Map.{lookup}
use Rattle.std.proofs.Common.{◌∙◌, None, ap}
use Rattle.go_history.specs.Keys.{key_eq}
use Rattle.go_history.specs.declared.entries.Entry.{Entry}
use Rattle.go_history.specs.inner.Trees.{TreeValue}
use Rattle.go_history.proofs.Noted.{nothing_is, number_is}
use Rattle.go_history.proofs.key_tree.KeyTree.get.Goals as goal

pub returns-in-Some : goal.returns-in-Some
returns-in-Some g c =
    let d : Entry = record { hashed = c.args.hashed.now; number = None; link = None } in
    c.number.ensures d
    ∙ number_is c.self.inside.entries.list c.self.inside.links.items c.args.hashed.now.key c.in-Some.at
    c.find.result.link d c.self.invariant (rw (c.in-Some.is, c.deref.ensures.value) at c.find.ensures.found)
    ∙ ap (λ (v : TreeValue). lookup (key_eq c.args.hashed.now.key) v.noted) c.self.view_is

pub returns-in-None : goal.returns-in-None
returns-in-None g c =
    nothing_is c.self.inside.entries.list c.self.inside.links.items c.args.hashed.now.key c.find.result.link
    (rw (c.in-None.is, c.deref.ensures.value) at c.find.ensures.none)
    ∙ ap (λ (v : TreeValue). lookup (key_eq c.args.hashed.now.key) v.noted) c.self.view_is
