use Rattle.goref_results.proofs.MarkBits.{no_marks}
use Rattle.goref_results.proofs.marks.Plays.none.Goals as goal

pub returns : goal.returns
returns c = no_marks c.new.result c.new.ensures
