use Rattle.std.proofs.Common.{rules}
use Rattle.go_chains.proofs.board.packs.Board+Open.pack.Goals as goal

pub returns : goal.returns
returns c = search rules
