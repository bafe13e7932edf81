use Rattle.std.proofs.Common.{◌≡◌, ◌∙◌, ◌+◌, ◌*◌, ◌++◌, ◌∷◌, [], List, ℕ, Some, ap, ap₂, arith, length, length-append, mul-suc, rules, suc, sym}
use Rattle.go_board.specs.declared.pack.Packed.{Packed}
use Rattle.go_history.specs.declared.entries.Entry.{Entry}
use Rattle.go_history.specs.declared.entries.Rest.{Rest}
use Rattle.go_history.specs.declared.hashed.Hashed.{Hashed}
use Rattle.go_history.specs.inner.Entries.{EntriesValue, entries_of}
use Rattle.go_history.specs.inner.Trees.{hashed}
use Rattle.go_history.proofs.KeptEntries.{pushed}
use Rattle.go_history.proofs.entries.Entries.push.Goals as goal

pub invariant_of-self-2 : goal.invariant_of-self-2
invariant_of-self-2 g c =
    let w = c.self.inside.width in
    let rests = c.self.inside.rests.items in
    let rest : Rest = record { mover = c.args.hashed.now.key.mover; number = Some c.args.number; link = c.args.link } in
    let prefixes_are : c.extend_from_slice.new.self.items ≡ c.self.inside.prefixes.items ++ c.args.prefix.now =
    search rules in
    let rests_are : c.push-pushed.new.self.items ≡ rests ++ rest ∷ [] = search rules in
    let count : length c.push-pushed.new.self.items ≡ suc (length rests) =
    omega (arith, ap length rests_are, length-append rests (rest ∷ [])) in
    let more : w * length c.push-pushed.new.self.items ≡ w * length rests + w = ap (λ n. w * n) count
    ∙ mul-suc w (length rests) in
    let same : length c.args.prefix.now ≡ w = c.requires.width
    ∙ sym (ap (λ (v : EntriesValue). v.width) c.self.view_is) in (
      c.self.invariant.0,
      omega (
        arith,
        ap length prefixes_are,
        length-append c.self.inside.prefixes.items c.args.prefix.now,
        same,
        more,
        c.self.invariant.1,
      ),
    )

pub returns-clause-added : goal.returns-clause-added
returns-clause-added g c =
    let rests = c.self.inside.rests.items in
    let rest : Rest = record { mover = c.args.hashed.now.key.mover; number = Some c.args.number; link = c.args.link } in
    let prefixes_are : c.extend_from_slice.new.self.items ≡ c.self.inside.prefixes.items ++ c.args.prefix.now =
    search rules in
    let rests_are : c.push-pushed.new.self.items ≡ rests ++ rest ∷ [] = search rules in
    let same : length c.args.prefix.now ≡ c.self.inside.width = c.requires.width
    ∙ sym (ap (λ (v : EntriesValue). v.width) c.self.view_is) in
    let own : hashed (record { pack = c.args.hashed.now.key.pack; mover = c.args.hashed.now.key.mover }) ≡
    c.args.hashed.now = sym c.requires.own in
    ap₂ (λ (prefixes : List ℕ) (rests : List Rest). entries_of c.self.inside.width prefixes rests) prefixes_are
    rests_are
    ∙ pushed c.self.inside.width c.self.inside.prefixes.items c.args.prefix.now rests rest c.self.invariant.1 same
    ∙ ap₂ (λ (list : List Entry) (r : Hashed). list
    ++ record { hashed = r; number = Some c.args.number; link = c.args.link } ∷ [])
    (ap (λ (v : EntriesValue). v.list) c.self.view_is)
    (ap (λ (pack : Packed). hashed (record { pack = pack; mover = c.args.hashed.now.key.mover })) c.requires.pack ∙ own)
