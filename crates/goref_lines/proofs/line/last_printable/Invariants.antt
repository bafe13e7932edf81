use Rattle.std.proofs.Common.{◌≡◌, length}
use Rattle.goref_lines.specs.Kept.{printable}
use Rattle.goref_lines.specs.inner.Prefixes.{last_of}
use Rattle.goref_lines.proofs.line.last_printable.Given as goal

abbrev pub invariant-loop-last : goal.invariant-loop-last
invariant-loop-last l = last_of (printable l.rest) ≡ last_of (printable l.bytes)

abbrev pub decreases-loop-last : goal.decreases-loop-last
decreases-loop-last l = length l.rest
