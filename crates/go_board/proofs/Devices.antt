use Rattle.std.proofs.Common.{◌≡◌, ℕ, zero, suc, if◌then◌else◌, ◌+◌, refl, arith, nat_eq, nat_lt, ◌&&◌}
use Rattle.std.proofs.lemmas.Bool.Decides.{nat_tests}

-- a put that took some bytes is no failure
pub no_failure_more : {n' : ℕ} (count len : ℕ) {n : ℕ} → ¬ (count ≡ 0) →
    n' ≡ (if nat_eq count 0 && nat_lt 0 len then n + 1 else n) → n' ≡ n
no_failure_more zero len some counted = absurd (some refl)
no_failure_more (suc count) len some counted = grind (arith, nat_tests)
