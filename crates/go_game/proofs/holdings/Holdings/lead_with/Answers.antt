use Rattle.std.proofs.Common.{arith, ◌∙◌, ap, sym}
use Rattle.std.proofs.lemmas.Int.{ints}
use Rattle.go_board.specs.Colours.{Colouring}
use Rattle.go_board.specs.Points.{number_of}
use Rattle.go_chains.specs.Boards.{grid_of}
use Rattle.go_game.specs.Choices.{lead_on}
use Rattle.go_game.proofs.Holding.{lead_placed, no_colour}
use Rattle.go_game.proofs.holdings.Holdings.lead_with.Goals as goal

pub returns : goal.returns
returns c =
    let n = c.args.board.now.lines in
    let g = grid_of c.args.board.now in
    let placed = lead_placed n c.from-lines.result c.row_and_column-row.result.0 c.row_and_column-row.result.1 g
    c.args.colour c.args.p c.args.self.now c.lead_where.result c.requires.holdings
    (c.from-lines.ensures ∙ c.lines.ensures.value ∙ c.size.ensures.lines) c.row_and_column-row.ensures.row
    c.row_and_column-row.ensures.col (no_colour g (number_of n c.args.p) c.requires.empty) c.lead_where.ensures in
    let told = placed ∙ ap (λ (k : Colouring). lead_on n k c.args.colour) (sym c.requires.quiet) in
    omega (arith, ints, told, c.lead_where.type_inv)
