use Rattle.std.proofs.Common.{rules}
use Rattle.go_board.proofs.meter.Meter.tick.Goals as goal

pub returns : goal.returns
returns g c = search rules
