use Rattle.std.proofs.Common.{◌≡◌, ◌<◌, ◌≤◌, ◌+◌, ◌*◌, ℕ, slice_index}
use Rattle.go_board.specs.Paths.{IsAdjacent}
use Rattle.go_board.specs.declared.size.TheConstants.{MAX_POINTS}
use Rattle.go_board.specs.declared.point_set.TheConstants.{WORDS}
use Rattle.go_chains.specs.Cells.{code_at, label_of}
use Rattle.go_chains.specs.inner.Edits.{Edited}
use Rattle.go_chains.specs.inner.Steps.{CountsTaken, IsCapturing}
use Rattle.go_chains.specs.inner.Tables.{IsDead, tables_of}
use Rattle.go_chains.proofs.capture.capture_beside.Given as goal

abbrev pub invariant-loop-near : goal.invariant-loop-near
invariant-loop-near g l =
    let n = l.fn.size in
    let old = l.fn.cells.numbers in
    record {
      capturing : IsCapturing (n * n) (IsAdjacent n) (tables_of old) (tables_of l.cells.numbers) l.fn.captured_code;
      gone : (i : ℕ) → i < l.near-index → code_at old (slice_index l.fn.beside i) ≡ l.fn.captured_code →
          IsDead (n * n) (tables_of old) (label_of old (slice_index l.fn.beside i)) →
          code_at l.cells.numbers (slice_index l.fn.beside i) ≡ 0;
      stones : CountsTaken (n * n) (tables_of old) (tables_of l.cells.numbers) l.fn.captured_code l.stones;
      few : l.stones ≤ l.near-index * MAX_POINTS;
      edited : Edited l.fn.cells l.cells l.fn.changes l.changes l.fn.meter l.meter (5 * l.stones)
          (l.near-index * (WORDS + 5) + 18 * l.stones);
    }
