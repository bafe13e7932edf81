use Rattle.std.proofs.Common.{◌≤◌, ◌*◌, length}
use Rattle.memchr.specs.Find.{Nowhere, Passes, is_byte2}
use Rattle.go_sgf.proofs.scan.near_stop.Given as goal

abbrev pub invariant-loop-block : goal.invariant-loop-block
invariant-loop-block l = record {
  within : l.block * 16 ≤ length l.bytes;
  before : Nowhere (Passes (is_byte2 93 92) l.bytes) 0 (l.block * 16);
}
