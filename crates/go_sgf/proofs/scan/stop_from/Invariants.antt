use Rattle.memchr.specs.Find.{Nowhere, Passes, is_byte2}
use Rattle.go_sgf.proofs.scan.stop_from.Given as goal

abbrev pub invariant-loop-place : goal.invariant-loop-place
invariant-loop-place l = Nowhere (Passes (is_byte2 93 92) l.bytes) l.from l.place
