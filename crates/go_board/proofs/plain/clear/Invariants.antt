use Rattle.std.proofs.Common.{◌≡◌, ◌≤◌}
use Rattle.go_board.proofs.Clearing.{IsClearing}
use Rattle.go_board.proofs.plain.clear.Given as goal

abbrev pub invariant-loop-number : goal.invariant-loop-number
invariant-loop-number l = record {
  lines : l.grid.lines ≡ l.fn.grid.lines;
  few : l.taken ≤ l.number;
  clearing : IsClearing l.fn.grid.lines l.fn.grid.colours l.colour l.number l.grid.colours l.taken;
}
