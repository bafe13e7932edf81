use Rattle.std.proofs.Common.{◌≡◌, ◌≢◌, ◌<◌, ◌≤◌, ◌+◌, ◌*◌, ℕ}
use Rattle.go_chains.specs.Cells.{lib_of}
use Rattle.go_chains.proofs.masks.has_liberty_but.Given as goal

abbrev pub invariant-loop-word : goal.invariant-loop-word
invariant-loop-word g l = record {
  none : (q : ℕ) → q < l.fn.size * l.fn.size → q ≢ l.fn.point → q < 64 * l.word →
      lib_of l.fn.cells.numbers l.fn.label q ≡ 1 → ⊥;
  count : l.meter ≤ l.fn.meter + (l.word + 1);
  onward : l.fn.meter ≤ l.meter;
}
