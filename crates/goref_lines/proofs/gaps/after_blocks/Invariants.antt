use Rattle.std.proofs.Common.{◌≡◌, ◌++◌, ℕ, List, length}
use Rattle.goref_lines.specs.inner.Prefixes.{AreBetweenWords}
use Rattle.goref_lines.proofs.gaps.after_blocks.Given as goal

abbrev pub invariant-loop-more : goal.invariant-loop-more
invariant-loop-more l = (gap : List ℕ) × (l.bytes ≡ gap ++ l.rest) × AreBetweenWords gap

abbrev pub decreases-loop-more : goal.decreases-loop-more
decreases-loop-more l = length l.rest
