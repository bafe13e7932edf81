use Rattle.go_sgf.proofs.Walking.{refused_alike}
use Rattle.go_sgf.proofs.laws.refused_alike.Goals as goal

pub returns : goal.returns
returns c = refused_alike
