use Rattle.std.proofs.Common.{◌≤◌, ◌-◌, length, take}
use Rattle.go_sgf.specs.Record.{IsValue}
use Rattle.go_sgf.proofs.values.far_end.Given as goal

abbrev pub invariant-loop-prefix : goal.invariant-loop-prefix
invariant-loop-prefix l = record {
  within : l.read ≤ length l.bytes;
  inside : IsValue (take l.read l.bytes);
}

abbrev pub decreases-loop-prefix : goal.decreases-loop-prefix
decreases-loop-prefix l = length l.bytes - l.read
