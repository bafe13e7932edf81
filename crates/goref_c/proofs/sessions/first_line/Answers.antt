use Rattle.std.proofs.Common.{◌∙◌, sym}
use Rattle.goref_c.proofs.FirstLine.{end_found, no_end_found}
use Rattle.goref_c.proofs.sessions.first_line.Goals as goal

pub returns-in-Some : goal.returns-in-Some
returns-in-Some c = c.split_at.ensures.front ∙ sym (end_found c.args.text.now c.in-Some.end c.in-Some.ensures)

pub returns-in-None : goal.returns-in-None
returns-in-None c = sym (no_end_found c.args.text.now c.in-None.ensures)
