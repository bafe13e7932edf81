use Rattle.go_board.specs.lemmas.Writing.{writes_then}
use Rattle.go_game.specs.Standings.{board_of}
use Rattle.goref_results.specs.Diagrams.{spaced_mark}
use Rattle.goref_results.proofs.Listing.{all_more}
use Rattle.goref_results.proofs.diagram.put_marks.Goals as goal

pub loop-col-preserved : goal.loop-col-preserved
loop-col-preserved g c =
    let s = c.args.game.now.standing in
    writes_then _ c.loop-col.invariant (rw (c.mark.ensures, c.colour_at.ensures) at c.put.ensures)
    (all_more (spaced_mark s.lines (board_of s) c.args.row) c.loop-col.col)
