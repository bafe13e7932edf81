use Rattle.std.proofs.Common.{rules}
use Rattle.goref_lines.proofs.request.id_of_cut.Goals as goal

pub returns-in-None : goal.returns-in-None
returns-in-None c = search rules
