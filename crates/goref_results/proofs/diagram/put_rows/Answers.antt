use Rattle.std.proofs.Common.{◌-◌, ℕ}
use Rattle.go_board.specs.lemmas.Writing.{writes_then}
use Rattle.go_game.specs.Standings.{board_of}
use Rattle.goref_results.specs.Diagrams.{row_text}
use Rattle.goref_results.proofs.Listing.{all_more}
use Rattle.goref_results.proofs.diagram.put_rows.Goals as goal

pub loop-count-preserved : goal.loop-count-preserved
loop-count-preserved g c =
    let s = c.args.game.now.standing in
    let n = s.lines in
    writes_then _ c.loop-count.invariant (rw (c.lines-lines.ensures.value, c.size.ensures.lines) at c.put_row.ensures)
    (all_more (λ (k : ℕ). row_text n (board_of s) (n - 1 - k)) c.loop-count.count)
