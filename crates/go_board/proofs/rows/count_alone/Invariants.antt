use Rattle.std.proofs.Common.{◌≡◌, ◌≤◌, ◌*◌, count_by}
use Rattle.std.specs.List.{range_with_len}
use Rattle.go_board.specs.declared.colour.Colour.{Colour}
use Rattle.go_board.specs.Colours.{Colouring, other}
use Rattle.go_board.specs.Reaching.{is_area}
use Rattle.go_board.specs.Rows.{AreHeld}
use Rattle.go_board.proofs.rows.count_alone.Given as goal

abbrev pub invariant-loop-row : goal.invariant-loop-row
invariant-loop-row l = record {
  few : l.count ≤ 32 * l.row;
  counted : (g : Colouring) (c : Colour) → AreHeld l.lines g c l.own → AreHeld l.lines g (other c) l.theirs →
      l.count ≡ count_by (is_area l.lines g c) (range_with_len 0 (l.row * l.lines));
}
