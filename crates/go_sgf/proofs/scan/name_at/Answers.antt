use Rattle.std.proofs.Common.{rules}
use Rattle.go_sgf.proofs.scan.name_at.Goals as goal

pub returns-then-begins_with-clause-upper : goal.returns-then-begins_with-clause-upper
returns-then-begins_with-clause-upper c = search rules
