use Rattle.std.proofs.Common.{◌≡◌, ◌≤◌, ◌+◌, ◌-◌, ◌*◌, length}
use Rattle.std.specs.Prelude.{sum_by}
use Rattle.std.specs.List.{range_with_len}
use Rattle.go_chains.specs.Sound.{IsKept}
use Rattle.go_chains.specs.Boards.{grid_of}
use Rattle.go_game.specs.Counts.{most_to_fill}
use Rattle.go_game.specs.inner.Building.{IsFilledTo, most_to_put}
use Rattle.go_game.proofs.start.fill.Given as goal

abbrev pub invariant-loop-number : goal.invariant-loop-number
invariant-loop-number g l = record {
  lines : l.board.lines ≡ l.grid.lines;
  kept : IsKept l.board.lines l.board.cells;
  filled : IsFilledTo l.grid.lines l.grid.colours l.number (grid_of l.board);
  writes : length l.board.trace + sum_by (most_to_put l.grid)
      (range_with_len l.number (l.grid.lines * l.grid.lines - l.number)) ≤ length l.initial.board.trace + most_to_fill
      l.grid;
}
