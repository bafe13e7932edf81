use Rattle.std.proofs.Common.{arith, ℕ, ◌<◌, ◌∙◌, length-set}
use Rattle.std.proofs.lemmas.List.{length-replicate}
use Rattle.go_board.specs.declared.rows.TheConstants.{ROWS}
use Rattle.go_board.specs.Rows.{IsIn}
use Rattle.go_board.specs.lemmas.Rows.{none_in, rows_more}
use Rattle.go_board.proofs.rows.others.Goals as goal

pub loop-row-init : goal.loop-row-init
loop-row-init c = record {
  whole = length-replicate {A = ℕ} ROWS 0;
  done = λ row col. (λ set. absurd (none_in ROWS row col set), λ h. absurd (let low : row < 0 = h.0 in omega arith));
}

pub loop-row-preserved : goal.loop-row-preserved
loop-row-preserved c = record {
  whole = length-set c.loop-row.rest c.loop-row.row c.others_in_row.result ∙ c.loop-row.invariant.whole;
  done = rows_more (λ row col. IsIn c.args.rows.now row col → ⊥) c.args.lines c.loop-row.row c.others_in_row.result
      c.loop-row.rest (omega (arith, c.loop-row.invariant.whole, c.loop-row-test.true, c.requires))
      c.loop-row.invariant.done c.others_in_row.ensures;
}
