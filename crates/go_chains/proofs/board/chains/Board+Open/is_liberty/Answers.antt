use Rattle.std.proofs.Common.{◌≡◌, ◌∙◌, ◌/◌, ap, slice_index}
use Rattle.go_board.specs.Points.{number_of}
use Rattle.go_chains.specs.Cells.{word_of}
use Rattle.go_chains.specs.Boards.{BoardValue}
use Rattle.go_chains.proofs.answers.Queries.{bit_read, liberty_answers}
use Rattle.go_chains.proofs.board.chains.Board+Open.is_liberty.Goals as goal

pub returns : goal.returns
returns c =
    let n = c.args.self.now.lines in
    let cells = c.args.self.now.cells in
    let label = c.label_at-label.result in
    let at = c.from-point.result in
    let read : c.get-word.result ≡ word_of cells label (at / 64) = c.get-word.ensures.value
    ∙ ap (slice_index c.self.inside.cells.numbers) c.word_place.ensures.value
    ∙ ap (λ (b : BoardValue). word_of b.cells label (at / 64)) c.self.view_is in
    let point : at ≡ number_of n c.args.q = c.from-point.ensures ∙ c.index.ensures.value
    ∙ ap (λ (b : BoardValue). number_of b.lines c.args.q) c.self.view_is in
    bit_read cells c.get-word.result label (number_of n c.args.q) at read point
    ∙ liberty_answers n cells c.label_at-label.ensures.kept c.liberty_by_a_path.ensures (number_of n c.args.p)
    (number_of n c.args.q) label
    c.requires.p_stone (c.points_by_number.ensures.number n c.args.q c.requires.q_on) c.label_at-label.ensures.label
