use Rattle.std.proofs.Common.{rules}
use Rattle.go_chains.proofs.log.reserve_play.Goals as goal

pub returns-clause-room : goal.returns-clause-room
returns-clause-room g c = search rules

pub returns-in_err-reserve-clause-needed : goal.returns-in_err-reserve-clause-needed
returns-in_err-reserve-clause-needed g c = search rules
