use Rattle.std.proofs.Common.{◌∙◌, ◌*◌, List, ℕ, None, ap, arith, drop, length, sym, take}
use Rattle.go_board.specs.PackBytes.{pack_of_front}
use Rattle.go_history.specs.declared.entries.Entry.{Entry}
use Rattle.go_history.specs.declared.entries.Rest.{Rest}
use Rattle.go_history.proofs.KeptEntries.{at_is, length_is, within}
use Rattle.go_history.proofs.entries.Entries.prefix.Goals as goal

pub overflow_mul-self-inside : goal.overflow_mul-self-inside
overflow_mul-self-inside g c =
    let count = length_is c.self.inside.width c.self.inside.prefixes.items c.self.inside.rests.items c.args.self.now
    c.self.view_is in
    let long = within c.self.inside.width c.args.at (length c.self.inside.rests.items)
    (length c.self.inside.prefixes.items) (omega (arith, c.requires, count)) c.self.invariant.1 in
    omega (arith, long, ap length c.as_slice.ensures.value, c.as_slice.type_inv)

pub split_at-requires : goal.split_at-requires
split_at-requires g c =
    let count = length_is c.self.inside.width c.self.inside.prefixes.items c.self.inside.rests.items c.args.self.now
    c.self.view_is in
    let long = within c.self.inside.width c.args.at (length c.self.inside.rests.items)
    (length c.self.inside.prefixes.items) (omega (arith, c.requires, count)) c.self.invariant.1 in
    omega (arith, long, ap length c.as_slice.ensures.value)

pub split_at-requires-2 : goal.split_at-requires-2
split_at-requires-2 g c =
    let count = length_is c.self.inside.width c.self.inside.prefixes.items c.self.inside.rests.items c.args.self.now
    c.self.view_is in
    let long = within c.self.inside.width c.args.at (length c.self.inside.rests.items)
    (length c.self.inside.prefixes.items) (omega (arith, c.requires, count)) c.self.invariant.1 in
    omega (arith, long, ap length c.as_slice.ensures.value, c.split_at.ensures.back_len)

pub returns-clause-pack : goal.returns-clause-pack
returns-clause-pack g c d =
    let none : Rest = record { mover = None; number = None; link = None } in
    ap pack_of_front (c.split_at-2.ensures.front
    ∙ ap (take c.self.inside.width)
    (c.split_at.ensures.back ∙ ap (λ (bytes : List ℕ). drop (c.self.inside.width * c.args.at) bytes)
    c.as_slice.ensures.value))
    ∙ sym (ap (λ (e : Entry). e.hashed.key.pack)
    (at_is c.self.inside.width c.self.inside.prefixes.items c.self.inside.rests.items c.args.self.now c.self.view_is
    c.args.at d none c.requires))
