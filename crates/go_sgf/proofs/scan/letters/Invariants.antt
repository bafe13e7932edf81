use Rattle.std.proofs.Common.{◌≡◌, take, true}
use Rattle.std.specs.List.{list_all}
use Rattle.go_sgf.specs.Record.{is_letter_byte}
use Rattle.go_sgf.proofs.scan.letters.Given as goal

abbrev pub invariant-loop-place : goal.invariant-loop-place
invariant-loop-place l = list_all is_letter_byte (take l.place l.bytes) ≡ true
