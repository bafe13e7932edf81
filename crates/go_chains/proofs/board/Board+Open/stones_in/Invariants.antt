use Rattle.std.proofs.Common.{Some, ◌≡◌, ◌<◌, ◌*◌, ◌+◌, ◌↔◌, ℕ}
use Rattle.std.specs.Int.{bit_at}
use Rattle.go_board.specs.declared.colour.Colour.TheVariants.{Black, White}
use Rattle.go_board.specs.Colours.{colour_at}
use Rattle.go_chains.specs.Boards.{grid_of}
use Rattle.go_chains.proofs.board.Board+Open.stones_in.Given as goal

abbrev pub invariant-loop-col : goal.invariant-loop-col
invariant-loop-col l = record {
  black : (col : ℕ) → (bit_at l.stones.black col ≡ 1)
      ↔ ((col < l.col) × (colour_at (grid_of l.self) (l.fn.row * l.self.lines + col) ≡ Some Black));
  white : (col : ℕ) → (bit_at l.stones.white col ≡ 1)
      ↔ ((col < l.col) × (colour_at (grid_of l.self) (l.fn.row * l.self.lines + col) ≡ Some White));
}
