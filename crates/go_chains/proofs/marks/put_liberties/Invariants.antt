use Rattle.std.proofs.Common.{◌≡◌, ◌≤◌, ◌<◌, ◌+◌, ◌/◌, ◌⊎◌, ◌↔◌, ℕ}
use Rattle.go_board.specs.PointSets.{HasPoint}
use Rattle.go_chains.specs.Cells.{lib_of}
use Rattle.go_chains.proofs.marks.put_liberties.Given as goal

abbrev pub invariant-loop-word : goal.invariant-loop-word
invariant-loop-word g l = record {
  put : (q : ℕ) → HasPoint l.set q
      ↔ (HasPoint l.fn.set q ⊎ ((q / 64 < l.word) × (lib_of l.fn.cells.numbers l.fn.label q ≡ 1)));
  count : l.meter ≤ l.fn.meter + l.word;
  onward : l.fn.meter ≤ l.meter;
}
