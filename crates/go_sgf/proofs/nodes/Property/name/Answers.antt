use Rattle.std.proofs.Common.{rules}
use Rattle.go_sgf.proofs.nodes.Property.name.Goals as goal

pub returns-in-Other : goal.returns-in-Other
returns-in-Other g c = search rules
