use Rattle.std.proofs.Common.{arith, ◌≡◌, ◌+◌, ◌∙◌, suc, inl, inr, ap, sym}
use Rattle.std.proofs.lemmas.Bool.{cases_lt}
use Rattle.go_chains.specs.Cells.{next_of}
use Rattle.go_chains.specs.inner.Rings.{steps}
use Rattle.go_chains.proofs.marks.lowest_on_ring.Goals as goal

pub loop-preserved : goal.loop-preserved
loop-preserved c =
    let next = next_of c.args.cells.now.numbers in
    let from = c.args.from in
    let k = c.loop.counter in
    let inv = c.loop.invariant in
    let more : k + 1 ≡ suc k = omega arith in
    record {
      at = c.get-at.ensures.value ∙ ap next inv.at ∙ sym (ap (λ m. steps next m from) more);
      on = elim (cases_lt c.loop.lowest c.loop.at) [
        | inl less ↦
            let is : c.min-lowest.result ≡ c.loop.lowest = omega (arith, less, c.min-lowest.ensures) in
            elim inv.on [ inl first ↦ inl (is ∙ first) | inr had ↦ inr (had.0, omega (arith, had.1), had.2 ∙ sym is) ]
        | inr past ↦
            let is : c.min-lowest.result ≡ c.loop.at = omega (arith, past, c.min-lowest.ensures) in
            inr (k, omega arith, sym inv.at ∙ sym is)
      ];
      lowest = λ q on. elim (cases_lt on.0 k) [
        | inl less ↦ omega (arith, inv.lowest q (on.0, less, on.2), c.min-lowest.ensures)
        | inr past ↦
            let here : on.0 ≡ k = omega (arith, past, on.1) in
            omega (arith, inv.at ∙ sym (ap (λ m. steps next m from) here) ∙ on.2, c.min-lowest.ensures)
      ];
    }

pub returns-clause-lowest : goal.returns-clause-lowest
returns-clause-lowest c q on = c.loop.invariant.lowest q (on.0, omega (arith, on.1, c.loop-test.false), on.2)
