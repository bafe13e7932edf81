use Rattle.std.proofs.Common.{rules}
use Rattle.goref_program.proofs.words.follow_readable.Goals as goal

pub returns-in-Ok-clause-silent : goal.returns-in-Ok-clause-silent
returns-in-Ok-clause-silent g c = search rules
