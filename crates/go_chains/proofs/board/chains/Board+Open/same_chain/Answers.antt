use Rattle.go_board.specs.Points.{number_of}
use Rattle.go_chains.proofs.answers.Queries.{labels_joined}
use Rattle.go_chains.proofs.board.chains.Board+Open.same_chain.Goals as goal

pub returns : goal.returns
returns c =
    let n = c.args.self.now.lines in
    labels_joined n c.args.self.now.cells c.label_at.ensures.kept c.joined_by_a_path.ensures (number_of n c.args.p)
    (number_of n c.args.q) c.label_at.result c.label_at-2.result
    c.requires.p_stone c.requires.q_stone c.label_at.ensures.label c.label_at-2.ensures.label
