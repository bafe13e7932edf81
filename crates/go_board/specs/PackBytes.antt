-- Packs as contracts see them.
use Rattle.std.specs.Prelude.{◌-◌, ◌++◌, ℕ, Bool, List, length, nat_eq, replicate}
use Rattle.std.specs.List.{list_all}
use Rattle.std.specs.Cmp.Lexicographic.{pointwise}
use Rattle.go_board.specs.declared.pack.Packed.{Packed}
use Rattle.go_board.specs.declared.pack.TheConstants.{PACK_BYTES}

abbrev pub bytes_of : Packed → List ℕ
bytes_of p = p.bytes

-- packs are alike where their bytes are
abbrev pub packed_eq : Packed → Packed → Bool
packed_eq p q = pointwise nat_eq (bytes_of p) (bytes_of q)

-- bytes that are all 0
abbrev pub are_zero : List ℕ → Bool
are_zero bytes = list_all (λ b. nat_eq b 0) bytes

-- the pack with these first bytes, and 0 after them
abbrev pub pack_of_front : List ℕ → Packed
pack_of_front prefix = record { bytes = prefix ++ replicate (PACK_BYTES - length prefix) 0 }
