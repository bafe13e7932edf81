use Rattle.std.proofs.Common.{◌≡◌, ◌<◌, ◌↔◌, ℕ, length}
use Rattle.go_board.specs.declared.rows.TheConstants.{ROWS}
use Rattle.go_board.specs.Rows.{IsIn}
use Rattle.go_board.proofs.rows.others.Given as goal

abbrev pub invariant-loop-row : goal.invariant-loop-row
invariant-loop-row l = record {
  whole : length l.rest ≡ ROWS;
  done : (row col : ℕ) → IsIn l.rest row col ↔ ((row < l.row) × (col < l.lines) × (IsIn l.rows row col → ⊥));
}
