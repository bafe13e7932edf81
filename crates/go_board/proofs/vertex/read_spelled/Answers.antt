use Rattle.std.proofs.Common.{true≢false, sym, ◌∙◌, ◌≡◌, ap, map, codes}
use Rattle.std.specs.Char.{to_ascii_lowercase}
use Rattle.go_board.specs.Vertices.{vertex_on}
use Rattle.go_board.proofs.VertexLemmas.{other_word}
use Rattle.go_board.proofs.vertex.read_spelled.Goals as goal

pub returns-in-Some : goal.returns-in-Some
returns-in-Some c =
    let pass : c.as_slice.result.now ≡ codes "pass" = c.as_slice.ensures in
    let named = other_word c.args.word.now
    (λ same. true≢false (sym (c.if-eq_ignore_ascii_case.ensures.test.1
    (same ∙ ap (map to_ascii_lowercase) (sym pass))))) in
    c.on_board.ensures ∙ ap (vertex_on c.args.size) (c.in-Some.ensures ∙ sym named)
