use Rattle.std.proofs.Common.{◌≡◌, take}
use Rattle.std.specs.List.{list_all}
use Rattle.goref_lines.specs.inner.Prefixes.{is_gap_byte}
use Rattle.goref_lines.proofs.gaps.is_gap.Given as goal

abbrev pub invariant-loop-byte : goal.invariant-loop-byte
invariant-loop-byte l = l.all ≡ list_all is_gap_byte (take l.byte-index l.bytes)
