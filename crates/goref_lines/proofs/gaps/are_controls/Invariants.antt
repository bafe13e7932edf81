use Rattle.std.proofs.Common.{◌≡◌, take}
use Rattle.std.specs.List.{list_all}
use Rattle.goref_lines.specs.Kept.{is_control_byte}
use Rattle.goref_lines.proofs.gaps.are_controls.Given as goal

abbrev pub invariant-loop-byte : goal.invariant-loop-byte
invariant-loop-byte l = l.all ≡ list_all is_control_byte (take l.byte-index l.bytes)
