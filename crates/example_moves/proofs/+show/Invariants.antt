use Rattle.std.proofs.Common.{◌-◌}
use Rattle.example_moves.proofs.+show.Given as goal

abbrev pub decreases-show : goal.decreases-show
decreases-show g l = 1000 - l.depth
