-- The margin as the machine computes it.
use Rattle.std.proofs.Common.{arith, ◌≡◌, ◌*◌, ◌<◌, ℕ}
use Rattle.std.specs.Prelude.{ℤ, pos, ◌-ℤ◌}
use Rattle.std.proofs.lemmas.Int.{ints}
use lib.IntN.{◌*ℤ◌}
use mir.Syntax.{w64}
use mir.Val.{of_z, to_z}
use Rattle.go_board.specs.Komi.{IsKomi}

pub margin_is : (b w : ℕ) (k rb rw : ℤ) → b < 65536 → w < 65536 → IsKomi k → rb ≡ pos b → rw ≡ pos w
    → to_z w64 (of_z w64 (to_z w64 (of_z w64
    (to_z w64 (of_z w64 (to_z w64 (of_z w64 rb) *ℤ pos 100)) -ℤ to_z w64
    (of_z w64 (to_z w64 (of_z w64 rw) *ℤ pos 100)))) -ℤ to_z w64 (of_z w64 k)))
    ≡ (pos (100 * b) -ℤ pos (100 * w)) -ℤ k
margin_is b w k rb rw b_small w_small komi rb_is rw_is = omega (arith, ints, komi.0, komi.1)
