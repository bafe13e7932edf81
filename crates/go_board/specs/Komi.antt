-- Which numbers of hundredths of a point are a komi.
use Rattle.std.specs.Prelude.{ℤ, pos, negsuc, ◌≤ℤ◌}

-- at most 999,999,999.99 points on either side
abbrev pub IsKomi : ℤ → Type 0
IsKomi komi = (negsuc 99999999998 ≤ℤ komi) × (komi ≤ℤ pos 99999999999)
