use Rattle.std.proofs.Common.{◌≡◌, length}
use Rattle.go_sgf.specs.Spelling.{without_space}
use Rattle.go_sgf.proofs.scan.after_more_space.Given as goal

abbrev pub invariant-loop-first : goal.invariant-loop-first
invariant-loop-first l = without_space l.rest ≡ without_space l.bytes

abbrev pub decreases-loop-first : goal.decreases-loop-first
decreases-loop-first l = length l.rest
