use Rattle.std.proofs.Common.{◌≡◌, length, reverse}
use Rattle.go_sgf.specs.Spelling.{without_space}
use Rattle.go_sgf.proofs.numbers.trim_end.Given as goal

abbrev pub invariant-loop-last : goal.invariant-loop-last
invariant-loop-last l = without_space (reverse l.rest) ≡ without_space (reverse l.bytes)

abbrev pub decreases-loop-last : goal.decreases-loop-last
decreases-loop-last l = length l.rest
