-- The lines of a text: what is between its line ends, and what follows the last one if that is not empty.
use Rattle.std.specs.Prelude.{ℕ, ◌==◌, Bool, List, [], ◌∷◌, ◌++◌}
use Rattle.std.specs.List.{slice_split}

-- LF
abbrev pub is_line_end : ℕ → Bool
is_line_end b = b == 10

-- the parts but the last
abbrev pub all_but_last : List (List ℕ) → List (List ℕ)
all_but_last [] = []
all_but_last (part ∷ []) = []
all_but_last (part ∷ next ∷ parts) = part ∷ all_but_last (next ∷ parts)

-- the last of the parts
abbrev pub last_part : List (List ℕ) → List ℕ
last_part [] = []
last_part (part ∷ []) = part
last_part (part ∷ next ∷ parts) = last_part (next ∷ parts)

-- the lines that end with LF
unfoldable pub complete_lines : List ℕ → List (List ℕ)
complete_lines text = all_but_last (slice_split is_line_end text)

-- what follows the last LF
unfoldable pub unfinished_line : List ℕ → List ℕ
unfinished_line text = last_part (slice_split is_line_end text)

-- a line alone, unless it is empty
abbrev pub if_any : List ℕ → List (List ℕ)
if_any [] = []
if_any (b ∷ line) = (b ∷ line) ∷ []

-- the lines of a text; a last one without LF counts if it has a byte
abbrev pub lines : List ℕ → List (List ℕ)
lines text = complete_lines text ++ if_any (unfinished_line text)
