use Rattle.std.proofs.Common.{rules}
use Rattle.go_sgf.proofs.record.Collection.trees.Goals as goal

pub returns-clause-trees : goal.returns-clause-trees
returns-clause-trees g c = search rules
