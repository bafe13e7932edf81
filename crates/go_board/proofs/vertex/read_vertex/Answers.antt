use Rattle.std.proofs.Common.{refl}
use Rattle.go_board.specs.Vertices.{vertex_of}
use Rattle.go_board.proofs.VertexLemmas.{read_malformed, read_off_board, read_ok}
use Rattle.go_board.proofs.vertex.read_vertex.Goals as goal

pub returns : goal.returns
returns c =
    let n = c.args.size in
    let named = vertex_of c.args.word.now in
    rw c.read_spelled.ensures (record
    { value = refl; malformed = read_malformed n named; off_board = read_off_board n named; ok = read_ok n named })
