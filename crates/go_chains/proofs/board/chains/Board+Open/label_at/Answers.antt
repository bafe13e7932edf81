use Rattle.std.proofs.Common.{arith, ◌≡◌, ap, sym, subst, ◌∙◌}
use Rattle.go_board.specs.Points.{number_of}
use Rattle.go_chains.specs.Cells.{label_of}
use Rattle.go_chains.specs.Boards.{BoardValue, IsStoneOf, grid_of}
use Rattle.go_chains.proofs.answers.Queries.{label-small}
use Rattle.go_chains.proofs.board.chains.Board+Open.label_at.Goals as goal

pub returns-clause-bound : goal.returns-clause-bound
returns-clause-bound c =
    let n = c.self.inside.size in
    let stone = subst (λ (b : BoardValue). IsStoneOf (grid_of b) (number_of b.lines c.args.p)) (sym c.self.view_is)
    c.requires.stone in
    let small = label-small n c.self.inside.cells.numbers c.self.invariant (number_of n c.args.p) stone in
    let is : c.get.result ≡ label_of c.self.inside.cells.numbers (number_of n c.args.p) = c.get.ensures.value
    ∙ ap (label_of c.self.inside.cells.numbers) (c.from.ensures ∙ c.index.ensures.value) in
    omega arith
