use Rattle.std.proofs.Common.{◌≡◌, ◌≤◌, ◌<◌, ◌+◌, ◌*◌, ◌⊎◌, ◌↔◌, ℕ, slice_index}
use Rattle.go_board.specs.Paths.{IsAdjacent}
use Rattle.go_board.specs.declared.point_set.TheConstants.{WORDS}
use Rattle.go_chains.specs.Cells.{code_at, label_of, lib_of}
use Rattle.go_board.specs.PointSets.{HasPoint}
use Rattle.go_chains.proofs.quiet.put_lent.Given as goal

abbrev pub invariant-loop-near : goal.invariant-loop-near
invariant-loop-near g l = record {
  lent : (q : ℕ) → q < l.fn.size * l.fn.size → HasPoint l.set q
      ↔ ((IsAdjacent l.fn.size l.fn.point q × (code_at l.fn.cells.numbers q ≡ 0))
      ⊎ ((i : ℕ) × (i < l.near-index) × (code_at l.fn.cells.numbers (slice_index l.fn.beside i) ≡ l.fn.own)
      × (lib_of l.fn.cells.numbers (label_of l.fn.cells.numbers (slice_index l.fn.beside i)) q ≡ 1)));
  count : l.meter ≤ l.fn.meter + 4 + l.near-index * (WORDS + 2);
  onward : l.fn.meter ≤ l.meter;
}
