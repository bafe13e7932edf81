use Rattle.std.proofs.Common.{arith, rules, ◌≡◌, ◌+◌, ◌∙◌, suc, inl, inr, ap, sym}
use Rattle.std.proofs.lemmas.Bool.{cases_lt}
use Rattle.go_chains.specs.Cells.{next_of}
use Rattle.go_chains.specs.inner.Rings.{steps}
use Rattle.go_chains.proofs.marks.put_ring.Goals as goal

pub loop-preserved : goal.loop-preserved
loop-preserved c =
    let next = next_of c.args.cells.now.numbers in
    let from = c.args.from in
    let k = c.loop.counter in
    let inv = c.loop.invariant in
    let put = c.put.ensures in
    let more : k + 1 ≡ suc k = omega arith in
    record {
      at = c.get-at.ensures.value ∙ ap next inv.at ∙ sym (ap (λ m. steps next m from) more);
      marked = λ q. (
        λ set. elim ((put q).0 set) [
          | inl at ↦ (k, omega arith, sym inv.at ∙ sym at)
          | inr had ↦ (let on = (inv.marked q).0 had in (on.0, omega (arith, on.1), on.2))
        ],
        λ on. elim (cases_lt on.0 k) [
          | inl less ↦ (put q).1 (inr ((inv.marked q).1 (on.0, less, on.2)))
          | inr past ↦ (let is : on.0 ≡ k = omega (arith, past, on.1) in
              (put q).1 (inl (sym on.2 ∙ ap (λ m. steps next m from) is ∙ sym inv.at)))
        ],
      );
    }

pub loop-init : goal.loop-init
loop-init c = search rules
