use Rattle.std.proofs.Common.{rules}
use Rattle.go_board.proofs.meter.Meter+Open.new.Goals as goal

pub returns : goal.returns
returns c = search rules
