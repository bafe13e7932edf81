use Rattle.std.proofs.Common.{Some, ◌≡◌, ◌<◌, ◌*◌, ◌+◌, ◌↔◌, ℕ, length}
use Rattle.go_board.specs.declared.colour.Colour.TheVariants.{Black, White}
use Rattle.go_board.specs.declared.rows.TheConstants.{ROWS}
use Rattle.go_board.specs.Colours.{colour_at}
use Rattle.go_board.specs.Rows.{IsIn}
use Rattle.go_chains.specs.Boards.{grid_of}
use Rattle.go_chains.proofs.board.Board+Open.stones.Given as goal

abbrev pub invariant-loop-row : goal.invariant-loop-row
invariant-loop-row l = record {
  black_whole : length l.stones.black ≡ ROWS;
  white_whole : length l.stones.white ≡ ROWS;
  black_done : (row col : ℕ) → IsIn l.stones.black row col
      ↔ ((row < l.row) × (col < l.self.lines) × (colour_at (grid_of l.self) (row * l.self.lines + col) ≡ Some Black));
  white_done : (row col : ℕ) → IsIn l.stones.white row col
      ↔ ((row < l.row) × (col < l.self.lines) × (colour_at (grid_of l.self) (row * l.self.lines + col) ≡ Some White));
}
