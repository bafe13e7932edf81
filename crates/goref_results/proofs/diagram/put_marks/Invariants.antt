use Rattle.go_board.specs.Pens.{Writes}
use Rattle.go_game.specs.Standings.{board_of}
use Rattle.goref_results.specs.Diagrams.{marks_text}
use Rattle.goref_results.proofs.diagram.put_marks.Given as goal

abbrev pub invariant-loop-col : goal.invariant-loop-col
invariant-loop-col g l =
    Writes g.W.Sink l.fn.pen l.pen (marks_text l.game.standing.lines (board_of l.game.standing) l.row l.col)
