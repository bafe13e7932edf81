use Rattle.std.proofs.Common.{◌∙◌}
use Rattle.goref.proofs.Running.{none_held}
use Rattle.goref.proofs.runs.answer_line.Goals as goal

pub returns-in-Ok-clause-held : goal.returns-in-Ok-clause-held
returns-in-Ok-clause-held g c =
    none_held _ _ _ _ _ c.answer.ensures.silent c.flush_answer.ensures.passed c.flush_answer.ensures.silent

pub returns-in-Ok-clause-discarded : goal.returns-in-Ok-clause-discarded
returns-in-Ok-clause-discarded g c = λ silent. c.flush_answer.ensures.discarded silent
    ∙ c.in-Ok.ensures.discarded silent
