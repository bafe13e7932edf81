use Rattle.std.proofs.Common.{◌≡◌, ◌<◌, ◌*◌, ℕ, length}
use Rattle.go_board.specs.Colours.{colour_at}
use Rattle.go_chains.specs.Boards.{grid_of}
use Rattle.go_chains.proofs.board.Board+Open.grid.Given as goal

abbrev pub invariant-loop-number : goal.invariant-loop-number
invariant-loop-number l = record {
  lines : l.grid.lines ≡ l.self.lines;
  whole : length l.grid.colours ≡ l.self.lines * l.self.lines;
  done : (k : ℕ) → k < l.number → colour_at l.grid.colours k ≡ colour_at (grid_of l.self) k;
}
