use Rattle.std.proofs.Common.{◌≡◌, ◌<◌, ◌≤◌, ◌+◌, ℕ, length, slice_index}
use Rattle.go_chains.specs.Cells.{code_at}
use Rattle.go_chains.proofs.board.empty_points.Given as goal

abbrev pub invariant-loop-number : goal.invariant-loop-number
invariant-loop-number l = record {
  empty : (p : ℕ) → p < l.number → code_at l.cells.numbers p ≡ 0;
  rest : (k : ℕ) → l.number ≤ k → slice_index l.cells.numbers k ≡ slice_index l.fn.cells.numbers k;
  writes : length l.cells.trace ≡ length l.fn.cells.trace + l.number;
}
