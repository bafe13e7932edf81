use Rattle.std.proofs.Common.{◌≡◌, ◌∙◌, List, ap, ap₂, arith, slice_index_or, slice_set, sym}
use Rattle.go_history.specs.declared.entries.Entry.{Entry}
use Rattle.go_history.specs.inner.Entries.{EntriesValue, entry_of}
use Rattle.go_history.proofs.KeptEntries.{at_is, prefix_at, length_is, written}
use Rattle.go_history.proofs.entries.Entries.set_number.Goals as goal

pub index_mut-requires : goal.index_mut-requires
index_mut-requires g c = omega (
  arith,
  c.requires,
  length_is c.self.inside.width c.self.inside.prefixes.items c.self.inside.rests.items c.args.self.now c.self.view_is,
  c.self.inside.rests.ok.0,
)

pub returns-clause-list : goal.returns-clause-list
returns-clause-list g c d =
    let prefix = prefix_at c.self.inside.width c.self.inside.prefixes.items c.args.at in
    let was : entry_of prefix c.index_mut.result.now ≡ slice_index_or c.args.self.now.list c.args.at d =
    ap (entry_of prefix) c.index_mut.ensures.value
    ∙ sym (at_is c.self.inside.width c.self.inside.prefixes.items c.self.inside.rests.items c.args.self.now
    c.self.view_is c.args.at d c.index_mut.result.now c.requires) in
    written c.self.inside.width c.self.inside.prefixes.items c.self.inside.rests.items c.args.at
    (record { mover = c.index_mut.result.now.mover; number = c.args.number; link = c.index_mut.result.now.link })
    ∙ ap₂ (λ (list : List Entry) (e : Entry).
    slice_set list c.args.at (record { hashed = e.hashed; number = c.args.number; link = e.link }))
    (ap (λ (v : EntriesValue). v.list) c.self.view_is) was
