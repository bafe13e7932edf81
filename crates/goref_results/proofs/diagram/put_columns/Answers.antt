use Rattle.go_board.specs.lemmas.Writing.{writes_then}
use Rattle.goref_results.specs.Diagrams.{spaced_letter}
use Rattle.goref_results.proofs.Listing.{taken_more}
use Rattle.goref_results.proofs.diagram.put_columns.Goals as goal

pub loop-letter-preserved : goal.loop-letter-preserved
loop-letter-preserved g c =
    writes_then _ c.loop-letter.invariant c.put.ensures
    (taken_more spaced_letter c.args.letters.now c.loop-letter.letter-index 0 c.loop-letter-test.true)
