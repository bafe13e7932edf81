use Rattle.std.proofs.Common.{◌∙◌, Option, ap, ap₂, arith, sym}
use Rattle.go_board.specs.declared.colour.Colour.{Colour}
use Rattle.go_board.specs.declared.pack.Packed.{Packed}
use Rattle.go_history.specs.Keys.{key_eq}
use Rattle.go_history.specs.declared.key.Key.{Key}
use Rattle.go_history.specs.declared.entries.Entry.{Entry}
use Rattle.go_history.specs.declared.entries.Rest.{Rest}
use Rattle.go_history.proofs.KeptEntries.{at_is, length_is}
use Rattle.go_history.proofs.Noting.{key_is}
use Rattle.go_history.proofs.entries.Entries.is_of.Goals as goal

pub index-requires : goal.index-requires
index-requires g c = omega (
  arith,
  c.requires,
  length_is c.self.inside.width c.self.inside.prefixes.items c.self.inside.rests.items c.args.self.now c.self.view_is,
  c.self.inside.rests.ok.0,
)

pub returns : goal.returns
returns g c d =
    let own : Key = record { pack = c.of_front.result; mover = c.index.result.now.mover } in
    let mover = ap (λ (r : Rest). r.mover) c.index.ensures
    ∙ sym (ap (λ (e : Entry). e.hashed.key.mover)
    (at_is c.self.inside.width c.self.inside.prefixes.items c.self.inside.rests.items c.args.self.now
    c.self.view_is c.args.at d c.index.result.now c.requires)) in
    c.eq.ensures ∙ key_is c.args.key.now own
    ∙ ap₂ (λ (pack : Packed) (mover : Option Colour). key_eq c.args.key.now (record { pack = pack; mover = mover }))
    (c.of_front.ensures ∙ c.prefix.ensures.pack d) mover
