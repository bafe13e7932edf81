use Rattle.go_board.specs.Pens.{Writes}
use Rattle.go_game.specs.Standings.{board_of}
use Rattle.goref_results.specs.Diagrams.{rows_text}
use Rattle.goref_results.proofs.diagram.put_rows.Given as goal

abbrev pub invariant-loop-count : goal.invariant-loop-count
invariant-loop-count g l =
    Writes g.W.Sink l.fn.pen l.pen (rows_text l.game.standing.lines (board_of l.game.standing) l.count)
