use Rattle.go_sgf.proofs.Prefixes.{fronts_stand}
use Rattle.go_sgf.proofs.laws.fronts_stand.Goals as goal

pub returns : goal.returns
returns c = fronts_stand
