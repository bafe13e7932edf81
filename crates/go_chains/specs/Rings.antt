-- Rings: the points to which a map leads from a point, step by step.
use Rattle.std.specs.Prelude.{ℕ, zero, suc, List, [], ◌∷◌}

-- the points p, next p, .. of which there are n
abbrev pub ring_from : (ℕ → ℕ) → ℕ → ℕ → List ℕ
ring_from next zero p = []
ring_from next (suc n) p = p ∷ ring_from next n (next p)
