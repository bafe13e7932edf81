use Rattle.std.proofs.Common.{◌≡◌, length}
use Rattle.std.specs.List.{list_any}
use Rattle.goref_lines.specs.inner.Prefixes.{is_blank_byte}
use Rattle.goref_lines.proofs.gaps.has_blank.Given as goal

abbrev pub invariant-loop-more : goal.invariant-loop-more
invariant-loop-more l = list_any is_blank_byte l.rest ≡ list_any is_blank_byte l.bytes

abbrev pub decreases-loop-more : goal.decreases-loop-more
decreases-loop-more l = length l.rest
