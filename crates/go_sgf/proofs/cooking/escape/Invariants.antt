use Rattle.std.proofs.Common.{◌≡◌, take}
use Rattle.go_sgf.specs.Cooked.{escaped}
use Rattle.go_sgf.proofs.cooking.escape.Given as goal

abbrev pub invariant-loop-byte : goal.invariant-loop-byte
invariant-loop-byte g l = l.value.items ≡ escaped (take l.byte-index l.text)
