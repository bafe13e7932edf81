use Rattle.std.proofs.Common.{rules}
use Rattle.goref_tools.proofs.error.ToolError.status.Goals as goal

pub returns-in-Sgf : goal.returns-in-Sgf
returns-in-Sgf c = search rules
