use Rattle.std.proofs.Common.{◌≡◌, ◌∙◌, ◌-◌, ◌*◌, List, ℕ, ap, ap₂, arith, length, length-take-le, rules, take}
use Rattle.go_history.specs.declared.entries.Entry.{Entry}
use Rattle.go_history.specs.declared.entries.Rest.{Rest}
use Rattle.go_history.specs.inner.Entries.{EntriesValue, entries_of}
use Rattle.go_history.proofs.KeptEntries.{length_is, popped}
use Rattle.go_history.proofs.entries.Entries.pop.Goals as goal

pub returns-clause-list : goal.returns-clause-list
returns-clause-list g c =
    let w = c.self.inside.width in
    let n = length c.self.inside.rests.items - 1 in
    let kept : c.pop.new.self.items ≡ take n c.self.inside.rests.items = search rules in
    let count : c.len.result ≡ n = c.len.ensures ∙ c.pop.new.self.ok.0 ∙ ap length kept
    ∙ length-take-le n c.self.inside.rests.items (omega arith) in
    let few : n ≡ length c.args.self.now.list - 1 =
    omega (
      arith,
      length_is c.self.inside.width c.self.inside.prefixes.items c.self.inside.rests.items c.args.self.now
          c.self.view_is,
    ) in
    ap₂ (λ (prefixes : List ℕ) (rests : List Rest). entries_of w prefixes rests)
    (c.truncate.ensures.items ∙ ap (λ n. take (w * n) c.self.inside.prefixes.items) count) kept
    ∙ popped c.self.inside.width c.self.inside.prefixes.items c.self.inside.rests.items n
    ∙ ap₂ (λ (n : ℕ) (list : List Entry). take n list) few (ap (λ (v : EntriesValue). v.list) c.self.view_is)
