use Rattle.std.proofs.Common.{rules}
use Rattle.goref_c.proofs.Sending.{answers_shown}
use Rattle.goref_c.proofs.session.answers.Goals as goal

pub returns-in_default-clause-size : goal.returns-in_default-clause-size
returns-in_default-clause-size g c = search rules

pub returns-in_default-clause-no_text : goal.returns-in_default-clause-no_text
returns-in_default-clause-no_text g c = search rules

pub returns-in-Ok-clause-done : goal.returns-in-Ok-clause-done
returns-in-Ok-clause-done g c = λ _.
    let shelf = c.answer_lines.new.shelf in
    answers_shown c.in-Ok.field-0 c.args.lines c.answer_lines.new.session c.args.text.now shelf.file shelf.asked
    c.answer_lines.new.writer.taken _ _ _
    (rw (c.new-session.ensures, c.new-writer.ensures, c.new-shelf.ensures, c.in-Some.ensures.value) at
    c.in-Ok.ensures.answered)
    (rw c.bytes.ensures at c.show-in-Ok.ensures)
