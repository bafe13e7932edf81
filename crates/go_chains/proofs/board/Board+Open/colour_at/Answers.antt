use Rattle.std.proofs.Common.{rules}
use Rattle.go_chains.proofs.board.Board+Open.colour_at.Goals as goal

pub returns : goal.returns
returns c = search rules
