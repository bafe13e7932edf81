-- A result as it is in a response.
use Rattle.std.specs.Prelude.{ℕ, List, [], ◌∷◌}

-- a result after a space, and nothing where it is empty
abbrev pub result_text : List ℕ → List ℕ
result_text [] = []
result_text (b ∷ bs) = 32 ∷ b ∷ bs
