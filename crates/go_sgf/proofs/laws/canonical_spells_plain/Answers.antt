use Rattle.go_sgf.proofs.Canonical.{canonical_spells_plain}
use Rattle.go_sgf.proofs.laws.canonical_spells_plain.Goals as goal

pub returns : goal.returns
returns c = canonical_spells_plain
