use Rattle.std.proofs.lemmas.List.FromFn.{fill_by_all}
use Rattle.go_board.specs.declared.pack.TheConstants.{PACK_BYTES}
use Rattle.go_board.specs.Packs.{byte_of, packed_of}
use Rattle.go_board.proofs.laws.bytes_make_a_pack.Goals as goal

pub returns : goal.returns
unfolding packed_of
returns c = λ g bytes whole each. fill_by_all (byte_of g) bytes PACK_BYTES 0 whole each
