use Rattle.std.proofs.Common.{rules}
use Rattle.go_sgf.proofs.scan.stop_from.Goals as goal

pub loop-place-preserved : goal.loop-place-preserved
loop-place-preserved c = search rules
