use Rattle.std.proofs.Common.{rules}
use Rattle.goref_streams.proofs.OutputSink.flush.Goals as goal

pub returns-in-Ok-clause-emptied : goal.returns-in-Ok-clause-emptied
returns-in-Ok-clause-emptied g c = search rules
