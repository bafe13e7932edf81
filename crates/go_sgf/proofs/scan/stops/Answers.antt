use Rattle.std.proofs.Common.{arith}
use Rattle.go_sgf.proofs.Lanes.{either_mask}
use Rattle.go_sgf.proofs.scan.stops.Goals as goal

pub returns : goal.returns
returns c = either_mask 93 92 c.args.bytes (omega (arith, c.fits-bytes.0))
