use Rattle.std.proofs.Common.{rules}
use Rattle.go_sgf.proofs.nodes.Property.values.Goals as goal

pub returns-in-Letter : goal.returns-in-Letter
returns-in-Letter g c = search rules
