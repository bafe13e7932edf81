use Rattle.std.proofs.Common.{◌≡◌, take, min}
use Rattle.go_board.specs.Decimals.{digits_value}
use Rattle.go_board.proofs.decimals.value_of_digits.Given as goal

abbrev pub invariant-loop-byte : goal.invariant-loop-byte
invariant-loop-byte l = l.value ≡ min (digits_value (take l.byte-index l.digits)) l.most
