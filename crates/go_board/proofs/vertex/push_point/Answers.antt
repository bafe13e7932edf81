use Rattle.std.proofs.Common.{arith, ◌≡◌, ◌≤◌, ◌<◌, length, ◌+◌, decimal, ap, [], ◌∷◌, ◌++◌, ◌∙◌}
use Rattle.std.proofs.lemmas.Fmt.{length-decimal-le}
use Rattle.go_board.proofs.vertex.push_point.Goals as goal

pub push_str-requires : goal.push_str-requires
push_str-requires c =
    let small : c.from.result < 256 = omega arith in
    let three : length (decimal (c.from.result + 1)) ≤ 3 =
    length-decimal-le 3 (c.from.result + 1) (omega arith) (omega arith) (omega arith) in
    let one : c.push.new.self.bytes ≡ c.column_letter.result ∷ [] = c.push.ensures.ascii c.column_letter.ensures.ascii
    ∙ ap (λ bs. bs ++ c.column_letter.result ∷ []) c.requires in
    (omega arith, rw (one, c.format.ensures.text) (omega arith))
