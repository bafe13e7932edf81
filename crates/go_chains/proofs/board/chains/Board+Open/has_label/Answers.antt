use Rattle.std.proofs.Common.{rules}
use Rattle.go_chains.proofs.board.chains.Board+Open.has_label.Goals as goal

pub returns-in-Some : goal.returns-in-Some
returns-in-Some c = search rules
