use Rattle.std.proofs.Common.{◌≡◌, ◌∷◌, refl}
use Rattle.go_board.specs.declared.vertex.Vertex.{Vertex}
use Rattle.go_board.specs.declared.vertex.Vertex.TheVariants.{Pass, At}
use Rattle.go_board.specs.Vertices.{vertex_word}
use Rattle.go_board.specs.lemmas.Writing.{writes_then}
use Rattle.goref_results.specs.Results.{result_text}
use Rattle.goref_session.proofs.facts.put_choice.Goals as goal

after_blank : (v : Vertex) → 32 ∷ vertex_word v ≡ result_text (vertex_word v)
after_blank Pass = refl
after_blank (At p) = refl

pub returns : goal.returns
returns g c =
    writes_then _ c.put.ensures (rw (c.as_bytes.ensures.value, c.deref.ensures.0, c.vertex_text.ensures.text) at
    c.put-2.ensures) (after_blank c.args.vertex)
