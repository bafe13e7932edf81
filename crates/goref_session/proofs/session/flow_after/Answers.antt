use Rattle.std.proofs.Common.{rules}
use Rattle.goref_session.proofs.session.flow_after.Goals as goal

pub returns-in-Ends : goal.returns-in-Ends
returns-in-Ends c = search rules
