use Rattle.std.proofs.Common.{arith, rules, true≢false, ◌∙◌, inl, inr, sym, subst, ℕ, List, slice_index}
use Rattle.std.proofs.lemmas.Bool.{cases_eq}
use Rattle.go_chains.specs.inner.Quiet.{BreathesAt, StaysAt}
use Rattle.go_chains.proofs.quiet.takes_nothing.Goals as goal
use Rattle.go_chains.proofs.quiet.takes_nothing.Goals.{in-Stays, in-Breathes}

-- what lends a liberty isn't taken
stays : (n : ℕ) (cells : List ℕ) (p own q : ℕ) → BreathesAt n cells p own q → StaysAt n cells p own q
stays n cells p own q (inl empty) = inl empty
stays n cells p own q (inr same) = inr (inl same.0)

pub loop-near-preserved : goal.loop-near-preserved
loop-near-preserved g c =
    let n = c.args.size in
    let cells = c.args.cells.now.numbers in
    let k = c.loop-near.near-index in
    let kept = c.loop-near.invariant in
    elim c.match-outlook_on.branch [
      | in-Stays w ↦ record {
        stay = λ i low. elim (cases_eq i k) [
          | inl at ↦ subst (λ (j : ℕ). StaysAt n cells c.args.point c.args.own (slice_index c.args.beside.now j))
              (sym at) w.in-Stays.ensures.outlook.0
          | inr off ↦ kept.stay i (omega (arith, low, off))
        ];
        breathes = λ is. (let h = kept.breathes (sym w.breathes-is ∙ is) in (h.0, omega (arith, h.1), h.2));
        silent = λ is i low. elim (cases_eq i k) [
          | inl at ↦ subst (λ (j : ℕ). BreathesAt n cells c.args.point c.args.own (slice_index c.args.beside.now j) → ⊥)
              (sym at) w.in-Stays.ensures.outlook.1
          | inr off ↦ kept.silent (sym w.breathes-is ∙ is) i (omega (arith, low, off))
        ];
        count = omega (arith, kept.count, c.outlook_on.ensures.count);
        onward = omega (arith, kept.onward, c.outlook_on.ensures.onward);
      }
      | in-Breathes w ↦ record {
        stay = λ i low. elim (cases_eq i k) [
          | inl at ↦ subst (λ (j : ℕ). StaysAt n cells c.args.point c.args.own (slice_index c.args.beside.now j))
              (sym at)
              (stays n cells c.args.point c.args.own (slice_index c.args.beside.now k) w.in-Breathes.ensures.outlook)
          | inr off ↦ kept.stay i (omega (arith, low, off))
        ];
        breathes = λ is. (k, omega arith, w.in-Breathes.ensures.outlook);
        silent = λ is. absurd (true≢false (sym w.breathes-is ∙ is));
        count = omega (arith, kept.count, c.outlook_on.ensures.count);
        onward = omega (arith, kept.onward, c.outlook_on.ensures.onward);
      }
    ]

pub loop-near-init : goal.loop-near-init
loop-near-init g c = search rules
