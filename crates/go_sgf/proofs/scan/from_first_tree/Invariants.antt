use Rattle.std.proofs.Common.{◌≡◌, drop}
use Rattle.go_sgf.specs.Spelling.{tree_in}
use Rattle.go_sgf.proofs.scan.from_first_tree.Given as goal

abbrev pub invariant-loop-place : goal.invariant-loop-place
invariant-loop-place l = tree_in (drop l.place l.bytes) ≡ tree_in l.bytes
