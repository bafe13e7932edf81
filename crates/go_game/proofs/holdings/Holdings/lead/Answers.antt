use Rattle.std.proofs.Common.{rules}
use Rattle.go_game.proofs.holdings.Holdings.lead.Goals as goal

pub returns : goal.returns
returns c = search rules
