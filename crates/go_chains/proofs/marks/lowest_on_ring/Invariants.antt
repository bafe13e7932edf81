use Rattle.std.proofs.Common.{◌≡◌, ◌≤◌, ◌⊎◌, ℕ}
use Rattle.go_chains.specs.Cells.{next_of}
use Rattle.go_chains.specs.inner.Rings.{IsOnRing, steps}
use Rattle.go_chains.proofs.marks.lowest_on_ring.Given as goal

abbrev pub invariant-loop : goal.invariant-loop
invariant-loop l =
    let next = next_of l.fn.cells.numbers in
    record {
      at : l.at ≡ steps next l.counter l.fn.from;
      on : (l.lowest ≡ l.fn.from) ⊎ IsOnRing next l.counter l.fn.from l.lowest;
      lowest : (q : ℕ) → IsOnRing next l.counter l.fn.from q → l.lowest ≤ q;
    }
