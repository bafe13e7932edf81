use Rattle.go_sgf.proofs.Prefixed.{cooking_undoes_escaping}
use Rattle.go_sgf.proofs.laws.cooking_undoes_escaping.Goals as goal

pub returns : goal.returns
returns c = cooking_undoes_escaping
