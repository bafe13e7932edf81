use Rattle.std.proofs.Common.{rules}
use Rattle.goref_session.proofs.commands.record.load_into.Goals as goal

pub returns-in-Ok : goal.returns-in-Ok
returns-in-Ok g c = search rules

pub returns-in-Err-Cannot : goal.returns-in-Err-Cannot
returns-in-Err-Cannot g c = search rules

pub returns-in-Err-Memory : goal.returns-in-Err-Memory
returns-in-Err-Memory g c = search rules
