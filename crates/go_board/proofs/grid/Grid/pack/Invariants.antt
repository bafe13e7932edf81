use Rattle.std.proofs.Common.{◌≡◌, ◌<◌, ℕ, length, slice_index_or}
use Rattle.go_board.specs.declared.pack.TheConstants.{PACK_BYTES}
use Rattle.go_board.specs.PackBytes.{bytes_of}
use Rattle.go_board.specs.Packs.{byte_of}
use Rattle.go_board.proofs.grid.Grid.pack.Given as goal

abbrev pub invariant-loop-place : goal.invariant-loop-place
invariant-loop-place l = (length (bytes_of l.packed) ≡ PACK_BYTES)
    × ((k : ℕ) → k < l.place → slice_index_or (bytes_of l.packed) k 0 ≡ byte_of l.self.colours k)
