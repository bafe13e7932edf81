use Rattle.goref_results.proofs.Marking.{marks_are_legal}
use Rattle.goref_results.proofs.laws.marks_are_legal.Goals as goal

pub returns : goal.returns
returns c = marks_are_legal
