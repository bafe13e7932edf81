use Rattle.std.proofs.Common.{◌≡◌, take}
use Rattle.go_game.proofs.Stones.{with_black}
use Rattle.go_game.proofs.handicap.stones_on.Given as goal

abbrev pub invariant-loop-point : goal.invariant-loop-point
invariant-loop-point l = record {
  lines : l.grid.lines ≡ l.initial.grid.lines;
  colours : l.grid.colours ≡ with_black l.initial.grid.lines l.initial.grid.colours (take l.point-index l.points);
}
