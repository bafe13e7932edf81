use Rattle.std.proofs.Common.{sym, ◌∙◌, ap, Some, subst}
use Rattle.go_board.specs.declared.vertex.Vertex.{Vertex}
use Rattle.go_board.specs.declared.vertex.Vertex.TheVariants.{At}
use Rattle.go_board.specs.Vertices.{vertex_of, IsOnBoard}
use Rattle.go_board.proofs.VertexLemmas.{word_back}
use Rattle.go_board.proofs.vertex.vertex_text.Goals as goal

pub returns-in-At-clause-reads_back : goal.returns-in-At-clause-reads_back
returns-in-At-clause-reads_back c on =
    ap vertex_of c.push_point.ensures
    ∙ word_back (At c.in-At.point) (subst (IsOnBoard 25) c.in-At.is on)
    ∙ ap (λ (v : Vertex). Some v) (sym c.in-At.is)
