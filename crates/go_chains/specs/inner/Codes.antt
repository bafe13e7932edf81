-- The codes of four points in a byte.
use Rattle.std.specs.Prelude.{ℕ, ◌/◌, ◌%◌, ◌^◌}

-- the code at one of the four places of a byte, the first lowest
abbrev pub code_in : ℕ → ℕ → ℕ
code_in byte at = byte / 4 ^ at % 4
