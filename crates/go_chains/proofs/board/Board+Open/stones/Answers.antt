use Rattle.std.proofs.Common.{arith, ℕ, ◌<◌, ◌≡◌, ◌+◌, ◌*◌, ◌∙◌, Some, List, ap, length, length-set, subst}
use Rattle.std.proofs.lemmas.List.{length-replicate}
use Rattle.go_board.specs.declared.rows.TheConstants.{ROWS}
use Rattle.go_board.specs.declared.colour.Colour.TheVariants.{Black, White}
use Rattle.go_board.specs.Colours.{colour_at}
use Rattle.go_board.specs.Rows.{IsIn}
use Rattle.go_chains.specs.Boards.{grid_of}
use Rattle.go_board.specs.lemmas.Rows.{none_in, rows_more}
use Rattle.go_chains.proofs.board.Board+Open.stones.Goals as goal

pub loop-row-init : goal.loop-row-init
loop-row-init c =
    let black = c.none-stones.ensures.black in
    let white = c.none-stones.ensures.white in
    record {
      black_whole = ap (length {A = ℕ}) black ∙ length-replicate {A = ℕ} ROWS 0;
      white_whole = ap (length {A = ℕ}) white ∙ length-replicate {A = ℕ} ROWS 0;
      black_done = λ row col. (
        λ set.
            absurd (none_in ROWS row col (subst (λ (rows : List ℕ). IsIn rows row col) black set)),
        λ h.
            absurd (let low : row < 0 = h.0 in omega arith),
      );
      white_done = λ row col. (
        λ set.
            absurd (none_in ROWS row col (subst (λ (rows : List ℕ). IsIn rows row col) white set)),
        λ h.
            absurd (let low : row < 0 = h.0 in omega arith),
      );
    }

pub loop-row-preserved : goal.loop-row-preserved
loop-row-preserved c =
    let n = c.args.self.now.lines in
    let kept = c.loop-row.invariant in
    record {
      black_whole = length-set c.loop-row.stones.black c.loop-row.row c.stones_in-here.result.black ∙ kept.black_whole;
      white_whole = length-set c.loop-row.stones.white c.loop-row.row c.stones_in-here.result.white ∙ kept.white_whole;
      black_done = rows_more (λ row col. colour_at (grid_of c.args.self.now) (row * n + col) ≡ Some Black) n
          c.loop-row.row c.stones_in-here.result.black c.loop-row.stones.black
          (omega (arith, kept.black_whole, c.loop-row-test.true, c.from-row-end.ensures, c.lines.ensures.range))
          kept.black_done c.stones_in-here.ensures.black;
      white_done = rows_more (λ row col. colour_at (grid_of c.args.self.now) (row * n + col) ≡ Some White) n
          c.loop-row.row c.stones_in-here.result.white c.loop-row.stones.white
          (omega (arith, kept.white_whole, c.loop-row-test.true, c.from-row-end.ensures, c.lines.ensures.range))
          kept.white_done c.stones_in-here.ensures.white;
    }
