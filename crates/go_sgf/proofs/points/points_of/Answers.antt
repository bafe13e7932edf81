use Rattle.std.proofs.Common.{arith}
use Rattle.go_sgf.proofs.Listing.{all_listed}
use Rattle.go_sgf.proofs.points.points_of.Goals as goal

pub returns-clause-value : goal.returns-clause-value
returns-clause-value g c =
    all_listed c.args.size c.args.values.now c.loop-value.value-index c.loop-value.points.items (omega arith)
    c.loop-value.invariant.listed
