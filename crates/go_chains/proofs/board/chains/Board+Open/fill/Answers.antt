use Rattle.std.proofs.Common.{rules}
use Rattle.go_chains.proofs.board.chains.Board+Open.fill.Goals as goal

pub returns-then-not-first_given : goal.returns-then-not-first_given
returns-then-not-first_given c = search rules

pub returns-in-Some : goal.returns-in-Some
returns-in-Some c = search rules
