use Rattle.std.proofs.Common.{rules}
use Rattle.go_chains.proofs.board.chains.Board+Open.chain_points.Goals as goal

pub returns : goal.returns
returns c = search rules
