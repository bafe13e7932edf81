use Rattle.std.proofs.Common.{◌∙◌, ap, arith, sym}
use Rattle.go_history.specs.declared.entries.Entry.{Entry}
use Rattle.go_history.specs.declared.entries.Rest.{Rest}
use Rattle.go_history.proofs.KeptEntries.{at_is, length_is}
use Rattle.go_history.proofs.entries.Entries.number.Goals as goal

pub index-requires : goal.index-requires
index-requires g c = omega (
  arith,
  c.requires,
  length_is c.self.inside.width c.self.inside.prefixes.items c.self.inside.rests.items c.args.self.now c.self.view_is,
  c.self.inside.rests.ok.0,
)

pub returns : goal.returns
returns g c d =
    ap (λ (r : Rest). r.number) c.index.ensures
    ∙ sym (ap (λ (e : Entry). e.number)
    (at_is c.self.inside.width c.self.inside.prefixes.items c.self.inside.rests.items c.args.self.now c.self.view_is
    c.args.at d c.index.result.now c.requires))
