use Rattle.std.proofs.Common.{◌≡◌, ◌++◌, take}
use Rattle.go_game.proofs.handicap.push_all.Given as goal

abbrev pub invariant-loop-point : goal.invariant-loop-point
invariant-loop-point l = l.points.items ≡ l.initial.points.items ++ take l.point-index l.more
