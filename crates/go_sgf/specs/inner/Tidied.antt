-- What is written of a tree's text, byte by byte: all but white space and lower-case letters outside of
-- values. Only the contracts of private functions use it.
use Rattle.std.specs.Prelude.{◌≡◌, ℕ, zero, suc, ◌-◌, ◌==◌, ◌||◌, if◌then◌else◌, Bool, false, List, [], ◌∷◌, ◌++◌}
use Rattle.go_sgf.specs.Record.{is_lower}
use Rattle.go_sgf.specs.Spelling.{is_space}

abbrev pub is_left_out_byte : ℕ → Bool
is_left_out_byte c = is_space c || is_lower c

abbrev pub is_left_out_first : List ℕ → Bool
is_left_out_first [] = false
is_left_out_first (c ∷ cs) = is_left_out_byte c

-- where a byte is: outside of values, inside of one, or inside of one after the `\` that escapes it
pub data Spot : Type 0 where
  Outside : Spot
  Inside : Spot
  Escaped : Spot

-- where the next byte is
abbrev pub spot_after : Spot → ℕ → Spot
spot_after Outside c = if c == 91 then Inside else Outside
spot_after Inside c = if c == 93 then Outside else (if c == 92 then Escaped else Inside)
spot_after Escaped c = Inside

-- the number of trees that are open after a byte
abbrev pub open_after : Spot → ℕ → ℕ → ℕ
open_after Outside d c = if c == 40 then suc d else (if c == 41 then d - 1 else d)
open_after _ d c = d

-- the byte, where it is written
abbrev pub written : Spot → ℕ → List ℕ
written Outside c = if is_left_out_byte c then [] else c ∷ []
written _ c = c ∷ []

-- with this number of open trees: what is written until all of them are closed
unfoldable pub tidied_from : Spot → ℕ → List ℕ → List ℕ
tidied_from spot d [] = []
tidied_from spot zero (c ∷ cs) = []
tidied_from spot (suc d) (c ∷ cs) = written spot c ++ tidied_from (spot_after spot c) (open_after spot (suc d) c) cs

-- with this number of open trees: the text that is left where all of them are closed
unfoldable pub rest_from : Spot → ℕ → List ℕ → List ℕ
rest_from spot d [] = []
rest_from spot zero (c ∷ cs) = c ∷ cs
rest_from spot (suc d) (c ∷ cs) = rest_from (spot_after spot c) (open_after spot (suc d) c) cs

-- All bytes between b and rest are written. d trees are open at b, and e at rest, which is outside of values.
pub record StaysTo (spot : Spot) (d : ℕ) (b : List ℕ) (e : ℕ) (rest : List ℕ) : Type 0 where
  pub prefix : List ℕ
  pub whole : b ≡ prefix ++ rest
  pub text : tidied_from spot d b ≡ prefix ++ tidied_from Outside e rest
  pub after : rest_from spot d b ≡ rest_from Outside e rest

-- the text is inside of a value to its end, and all of it is written
abbrev pub NeverEnds : List ℕ → Type 0
NeverEnds b = (d : ℕ) → (tidied_from Inside (suc d) b ≡ b) × (rest_from Inside (suc d) b ≡ [])
