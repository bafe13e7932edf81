use Rattle.std.proofs.Common.{◌≡◌, take}
use Rattle.goref_c.proofs.files.letters_of.Given as goal

abbrev pub invariant-loop-byte : goal.invariant-loop-byte
invariant-loop-byte l = l.letters.value ≡ take l.byte-index l.text
