use Rattle.std.proofs.Common.{◌≡◌, drop}
use Rattle.std.specs.List.{filter}
use Rattle.std.specs.Str.{bytes_eq}
use Rattle.go_sgf.specs.Record.{is_upper_byte}
use Rattle.go_sgf.proofs.nodes.is_named.Given as goal

abbrev pub invariant-loop-letter : goal.invariant-loop-letter
invariant-loop-letter l = bytes_eq (filter is_upper_byte (drop l.letter-index l.name)) l.rest ≡ bytes_eq
    (filter is_upper_byte l.name) l.plain
