use Rattle.std.proofs.Common.{◌≡◌, ◌≤◌, count_by}
use Rattle.std.specs.List.{range_with_len}
use Rattle.go_board.specs.Points.{number_of}
use Rattle.go_board.specs.Reaching.{is_liberty_of}
use Rattle.go_board.proofs.plain.liberties_of.Given as goal

abbrev pub invariant-loop-number : goal.invariant-loop-number
invariant-loop-number l = record {
  few : l.count ≤ l.number;
  counted : l.count ≡ count_by (is_liberty_of l.grid.lines l.grid.colours (number_of l.grid.lines l.p))
      (range_with_len 0 l.number);
}
