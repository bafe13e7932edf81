use Rattle.std.proofs.Common.{arith, ◌+◌, inl, inr}
use Rattle.std.proofs.lemmas.Bool.{cases_lt}
use Rattle.go_board.proofs.Growing.{swept_more}
use Rattle.go_board.proofs.rows.sweep.Goals as goal
use Rattle.go_board.proofs.rows.sweep.Goals.{then-grow_all, else-grow_all, then-grow_all-2, else-grow_all-2}

pub loop-row-preserved : goal.loop-row-preserved
loop-row-preserved c = swept_more c.args.marks.now c.args.free.now c.loop-row.marks c.grow_all.new.marks c.loop-row.more
    c.if-grow_all.more c.grow_all.result c.loop-row.row (c.loop-row.row + 1) c.loop-row.row c.loop-row.invariant
    c.grow_all.ensures.spread c.grow_all.ensures.more c.grow_all.ensures.same c.grow_all.ensures.closed
    (elim c.if-grow_all.branch [
      | then-grow_all w ↦ inl (w.if-grow_all.true, w.more-is)
      | else-grow_all w ↦
          inr (w.if-grow_all.false, w.more-is)
    ])
    (λ r low. elim (cases_lt r c.loop-row.row) [ inl less ↦ inl less | inr last ↦ inr (omega arith) ])

pub loop-passed-preserved : goal.loop-passed-preserved
loop-passed-preserved c = swept_more c.args.marks.now c.args.free.now c.loop-passed.marks
    c.grow_all-in-loop-passed.new.marks c.loop-passed.more c.if-grow_all-2.more c.grow_all-in-loop-passed.result
    c.args.lines c.args.lines _ c.loop-passed.invariant
    c.grow_all-in-loop-passed.ensures.spread c.grow_all-in-loop-passed.ensures.more
    c.grow_all-in-loop-passed.ensures.same c.grow_all-in-loop-passed.ensures.closed
    (elim c.if-grow_all-2.branch [
      | then-grow_all-2 w ↦ inl (w.if-grow_all-2.true, w.more-is)
      | else-grow_all-2 w ↦
          inr (w.if-grow_all-2.false, w.more-is)
    ])
    (λ r low. inl low)
