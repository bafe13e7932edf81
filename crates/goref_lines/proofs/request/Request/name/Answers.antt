use Rattle.std.proofs.Common.{rules}
use Rattle.goref_lines.proofs.request.Request.name.Goals as goal

pub returns : goal.returns
returns c = search rules
