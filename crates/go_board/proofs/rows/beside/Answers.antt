use Rattle.std.proofs.Common.{arith, ◌≡◌, ◌<◌, ◌+◌, ◌-◌, ◌∙◌, ◌⊎◌, inl, inr, sym, slice_index}
use Rattle.std.proofs.lemmas.List.{get_or_past}
use Rattle.go_board.proofs.RowsBeside.{beside_all, beside_from}
use Rattle.go_board.proofs.rows.beside.Goals as goal
use Rattle.go_board.proofs.rows.beside.Goals.{then-row-gt0, else-row-gt0, then-row-lt-ROWS, else-row-lt-ROWS}

below_is : (c : goal.After-row_known-2-1) →
    ((0 < c.args.row) × (c.if-row-gt0.below ≡ slice_index c.args.rows.now (c.args.row - 1)))
    ⊎ ((c.args.row ≡ 0) × (c.if-row-gt0.below ≡ 0))
below_is c = elim c.if-row-gt0.branch [
  | then-row-gt0 w ↦ inl (w.if-row-gt0.true, w.below-is)
  | else-row-gt0 w ↦ inr (omega (arith, w.if-row-gt0.false), w.below-is)
]

above_is : (c : goal.After-row_known-2-1) → c.if-row-lt-ROWS.above ≡ slice_index c.args.rows.now (c.args.row + 1)
above_is c = elim c.if-row-lt-ROWS.branch [
  | then-row-lt-ROWS w ↦ w.above-is
  | else-row-lt-ROWS w ↦ w.above-is
      ∙ sym (get_or_past c.args.rows.now (c.args.row + 1) 0 (omega (arith, w.if-row-lt-ROWS.false, c.told-rows)))
]

pub returns-clause-from : goal.returns-clause-from
returns-clause-from c = beside_from c.args.rows.now c.args.row c.if-row-gt0.below c.if-row-lt-ROWS.above (below_is c)
    (above_is c)

pub returns-clause-all : goal.returns-clause-all
returns-clause-all c = beside_all c.args.rows.now c.args.row c.if-row-gt0.below c.if-row-lt-ROWS.above (below_is c)
    (above_is c)
