use Rattle.std.proofs.Common.{arith, ◌≡◌, ◌+◌, ◌*◌, ◌∙◌, ℕ, Some, ap}
use Rattle.go_board.specs.declared.colour.Colour.TheVariants.{Black, White}
use Rattle.go_board.specs.Colours.{colour_at}
use Rattle.go_board.specs.Packs.{colour_coded}
use Rattle.go_chains.specs.Cells.{code_at}
use Rattle.go_chains.specs.Boards.{BoardValue, grid_of}
use Rattle.go_chains.proofs.answers.Rows.{column_more, place_low, read_as}
use Rattle.go_chains.proofs.board.Board+Open.stones_in.Goals as goal

pub loop-col-preserved : goal.loop-col-preserved
loop-col-preserved c =
    let n = c.args.self.now.lines in
    let cells = c.args.self.now.cells in
    let col = c.loop-col.col in
    let lines : c.from-lines.result ≡ n = c.from-lines.ensures ∙ c.lines.ensures.value ∙ c.size.ensures.lines in
    let low = place_low n c.args.row col c.requires (omega (arith, c.loop-col-test.true, lines)) in
    let colour : c.coded-colour.result ≡ colour_coded (code_at cells (c.args.row * n + col)) =
    c.coded-colour.ensures ∙ ap colour_coded
    (c.get.ensures.value ∙ ap (λ (b : BoardValue). code_at b.cells (c.args.row * c.from-lines.result + col))
    c.self.view_is ∙ ap (λ (k : ℕ). code_at cells (c.args.row * k + col)) lines) in
    record {
      black = column_more (λ k. colour_at (grid_of c.args.self.now) (c.args.row * n + k) ≡ Some Black) col
          c.loop-col.stones.black c.with_stone.result c.loop-col.invariant.black
          (read_as n cells c.args.row col c.loop-col.stones.black c.with_stone.result c.coded-colour.result Black low
          colour c.with_stone.ensures);
      white = column_more (λ k. colour_at (grid_of c.args.self.now) (c.args.row * n + k) ≡ Some White) col
          c.loop-col.stones.white c.with_stone-in-loop-col.result c.loop-col.invariant.white
          (read_as n cells c.args.row col c.loop-col.stones.white c.with_stone-in-loop-col.result c.coded-colour.result
          White low colour c.with_stone-in-loop-col.ensures);
    }
