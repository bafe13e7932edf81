use Rattle.go_board.specs.declared.size.TheConstants.{MAX_POINTS}
use Rattle.go_board.proofs.Marks.{unmarked}
use Rattle.go_board.proofs.flood.no_marks.Goals as goal

pub returns-clause-none : goal.returns-clause-none
returns-clause-none c j marked = unmarked MAX_POINTS j marked
