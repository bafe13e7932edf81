use Rattle.std.proofs.Common.{rules}
use Rattle.goref_streams.proofs.InputSource.pull.Goals as goal

pub returns-then-not-is_empty-clause-ends : goal.returns-then-not-is_empty-clause-ends
returns-then-not-is_empty-clause-ends g c = search rules

pub returns-else-count-eq0-clause-read : goal.returns-else-count-eq0-clause-read
returns-else-count-eq0-clause-read g c = search rules
