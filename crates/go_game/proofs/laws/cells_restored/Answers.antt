use Rattle.std.proofs.Common.{refl}
use Rattle.go_game.proofs.Counting.{restored}
use Rattle.go_game.proofs.laws.cells_restored.Goals as goal

pub returns : goal.returns
returns c = λ n before then after logged back. restored n before then then after refl refl logged back
