-- The words of a text.
use Rattle.std.specs.Prelude.{ℕ, ◌==◌, Bool, true, false, List, [], ◌∷◌, filter}
use Rattle.std.specs.List.{slice_split, join_with_byte}

abbrev pub is_plain_space : ℕ → Bool
is_plain_space b = b == 32

abbrev pub has_bytes : List ℕ → Bool
has_bytes [] = false
has_bytes (b ∷ bs) = true

-- the words of a text: what is between its spaces and is not empty
abbrev pub words : List ℕ → List (List ℕ)
words text = filter has_bytes (slice_split is_plain_space text)

-- the words of a text, joined by single spaces
abbrev pub single_spaced : List ℕ → List ℕ
single_spaced text = join_with_byte 32 (words text)
