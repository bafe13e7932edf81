use Rattle.go_chains.proofs.writes.Rewinding.{all_rewound-played}
use Rattle.go_chains.proofs.laws.rewinds_all.Goals as goal

pub returns : goal.returns
returns c = all_rewound-played
