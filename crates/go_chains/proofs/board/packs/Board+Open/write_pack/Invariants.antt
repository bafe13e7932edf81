use Rattle.std.proofs.Common.{◌≡◌, ◌<◌, ℕ, length, slice_index_or}
use Rattle.go_board.specs.declared.pack.TheConstants.{PACK_BYTES}
use Rattle.go_board.specs.PackBytes.{bytes_of}
use Rattle.go_board.specs.Packs.{byte_of}
use Rattle.go_chains.specs.Boards.{grid_of}
use Rattle.go_chains.proofs.board.packs.Board+Open.write_pack.Given as goal

abbrev pub invariant-loop-place : goal.invariant-loop-place
invariant-loop-place l = record {
  whole : length (bytes_of l.packed) ≡ PACK_BYTES;
  done : (k : ℕ) → k < l.place → slice_index_or (bytes_of l.packed) k 0 ≡ byte_of (grid_of l.self) k;
}
