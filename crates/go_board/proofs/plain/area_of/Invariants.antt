use Rattle.std.proofs.Common.{◌≡◌, ◌≤◌, count_by}
use Rattle.std.specs.List.{range_with_len}
use Rattle.go_board.specs.Reaching.{is_area}
use Rattle.go_board.proofs.plain.area_of.Given as goal

abbrev pub invariant-loop-number : goal.invariant-loop-number
invariant-loop-number l = record {
  few : l.count ≤ l.number;
  counted : l.count ≡ count_by (is_area l.grid.lines l.grid.colours l.colour) (range_with_len 0 l.number);
}
