use Rattle.std.proofs.Common.{◌-◌, length}
use Rattle.bench_chains.proofs.+play_on.Given as goal

abbrev pub decreases-play_on : goal.decreases-play_on
decreases-play_on g l = length l.moves.now - l.from
