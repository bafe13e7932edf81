-- A start that is refused.
use Rattle.std.proofs.Common.{◌≡◌, refl}
use Rattle.go_board.specs.declared.point.Point.{Point}
use Rattle.go_game.specs.declared.error.SetupError.{SetupError}
use Rattle.go_game.specs.declared.error.SetupError.TheVariants.{NoLiberty, Memory}

-- where no stone is dead, it is for want of memory
pub memory_alone : (error : SetupError) → ((p : Point) → error ≡ NoLiberty p → ⊥) → error ≡ Memory
memory_alone (NoLiberty p) none = absurd (none p refl)
memory_alone Memory none = refl
