-- A test of a line that may ask for a file, before the line is cut into words.
use Rattle.std.specs.Prelude.{ℕ, ◌==◌, nat_lt, Bool, false, if◌then◌else◌, List, [], ◌∷◌}

-- the first byte above the digits is an `l`
abbrev pub may_load : List ℕ → Bool
may_load [] = false
may_load (b ∷ text) = if nat_lt 57 b then b == 108 else may_load text
