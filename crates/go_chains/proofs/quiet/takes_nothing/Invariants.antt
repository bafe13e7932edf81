use Rattle.std.proofs.Common.{◌≡◌, ◌≤◌, ◌<◌, ◌+◌, ◌*◌, true, false, ℕ, slice_index}
use Rattle.go_board.specs.declared.point_set.TheConstants.{WORDS}
use Rattle.go_chains.specs.inner.Quiet.{BreathesAt, StaysAt}
use Rattle.go_chains.proofs.quiet.takes_nothing.Given as goal

abbrev pub invariant-loop-near : goal.invariant-loop-near
invariant-loop-near g l = record {
  stay : (i : ℕ) → i < l.near-index →
      StaysAt l.fn.size l.fn.cells.numbers l.fn.point l.fn.own (slice_index l.fn.beside i);
  breathes : l.breathes ≡ true → (i : ℕ) × (i < l.near-index)
      × BreathesAt l.fn.size l.fn.cells.numbers l.fn.point l.fn.own (slice_index l.fn.beside i);
  silent : l.breathes ≡ false → (i : ℕ) → i < l.near-index →
      BreathesAt l.fn.size l.fn.cells.numbers l.fn.point l.fn.own (slice_index l.fn.beside i) → ⊥;
  count : l.meter ≤ l.fn.meter + l.near-index * (WORDS + 3);
  onward : l.fn.meter ≤ l.meter;
}
