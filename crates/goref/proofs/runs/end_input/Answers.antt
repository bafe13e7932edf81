use Rattle.goref.proofs.Progressing.{finishes}
use Rattle.goref.proofs.runs.end_input.Goals as goal

pub returns-clause-finishes : goal.returns-clause-finishes
returns-clause-finishes g c = λ start read given taken p.
    finishes p _ c.answer_line.ensures.discarded c.answer_line.ensures.responds
