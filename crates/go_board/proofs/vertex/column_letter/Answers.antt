use Rattle.std.proofs.Common.{sym, ap, get_or, ◌∙◌, ◌<◌, ◌≤◌, arith}
use Rattle.go_board.specs.Vertices.{column_letters}
use Rattle.go_board.proofs.VertexLemmas.{letter_past, letter_ascii}
use Rattle.std.proofs.lemmas.List.{get_or_default}
use Rattle.go_board.proofs.vertex.column_letter.Goals as goal

pub returns-then-col-clause-letter : goal.returns-then-col-clause-letter
returns-then-col-clause-letter c = let low : c.args.col < 25 = omega arith in c.from.ensures
    ∙ ap (λ k. get_or column_letters k 0) c.from-col.ensures ∙ get_or_default column_letters c.args.col 0 63 low

pub returns-then-col-clause-ascii : goal.returns-then-col-clause-ascii
returns-then-col-clause-ascii c = let e = returns-then-col-clause-letter c in let a = letter_ascii c.args.col in rw e a

pub returns-else-col-clause-letter : goal.returns-else-col-clause-letter
returns-else-col-clause-letter c = let past : 25 ≤ c.args.col = omega arith in sym (letter_past c.args.col past)
