-- Where a map leads from a point, step by step, until it is back. For the contracts of private functions.
use Rattle.std.specs.Prelude.{ℕ, zero, suc, ◌≡◌, ◌<◌}

-- where a number of steps along `next` lead from p
abbrev pub steps : (ℕ → ℕ) → ℕ → ℕ → ℕ
steps next zero p = p
steps next (suc i) p = next (steps next i p)

-- n steps lead from p through n points, no one twice, back to p
pub record IsRing (next : ℕ → ℕ) (n p : ℕ) : Type 0 where
  pub some : 0 < n
  pub closes : steps next n p ≡ p
  pub apart : (i j : ℕ) → i < n → j < n → steps next i p ≡ steps next j p → i ≡ j

-- fewer than n steps lead from p to q
abbrev pub IsOnRing : (ℕ → ℕ) → ℕ → ℕ → ℕ → Type 0
IsOnRing next n p q = (i : ℕ) × (i < n) × (steps next i p ≡ q)
