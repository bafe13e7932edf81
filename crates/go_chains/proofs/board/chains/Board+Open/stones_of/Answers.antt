use Rattle.std.proofs.Common.{arith, ◌≡◌, ◌≤◌, ◌∙◌, ap}
use Rattle.go_board.specs.Points.{number_of}
use Rattle.go_board.specs.declared.size.TheConstants.{MAX_POINTS}
use Rattle.go_chains.specs.Cells.{size_of}
use Rattle.go_chains.specs.Boards.{BoardValue}
use Rattle.go_chains.proofs.answers.Queries.{size_counts, size_few}
use Rattle.go_chains.proofs.board.chains.Board+Open.stones_of.Goals as goal

pub overflow_cast-result : goal.overflow_cast-result
overflow_cast-result c =
    let n = c.args.self.now.lines in
    let cells = c.args.self.now.cells in
    let label = c.label_at-label.result in
    let read : c.get.result ≡ size_of cells label = c.get.ensures.value
    ∙ ap (λ (b : BoardValue). size_of b.cells label) c.self.view_is in
    let few : size_of cells label ≤ MAX_POINTS =
    size_few n cells c.label_at-label.ensures.kept c.joined_by_a_path.ensures (number_of n c.args.p) label
    c.requires.stone c.label_at-label.ensures.label in
    omega arith

pub returns : goal.returns
returns c =
    let n = c.args.self.now.lines in
    let cells = c.args.self.now.cells in
    let label = c.label_at-label.result in
    let read : c.get.result ≡ size_of cells label = c.get.ensures.value
    ∙ ap (λ (b : BoardValue). size_of b.cells label) c.self.view_is in
    read ∙ size_counts n cells c.label_at-label.ensures.kept c.joined_by_a_path.ensures (number_of n c.args.p) label
    c.requires.stone c.label_at-label.ensures.label
