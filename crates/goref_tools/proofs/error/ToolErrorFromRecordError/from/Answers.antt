use Rattle.std.proofs.Common.{rules}
use Rattle.goref_tools.proofs.error.ToolErrorFromRecordError.from.Goals as goal

pub returns-in-Memory : goal.returns-in-Memory
returns-in-Memory c = search rules
