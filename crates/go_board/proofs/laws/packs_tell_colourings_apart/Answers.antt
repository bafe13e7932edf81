use Rattle.go_board.proofs.Packing.{packs_tell_apart}
use Rattle.go_board.proofs.laws.packs_tell_colourings_apart.Goals as goal

pub returns : goal.returns
returns c = packs_tell_apart
