-- How a line grows, for the contracts of its private functions.
use Rattle.std.specs.Prelude.{◌≡◌, ◌-◌, ℕ, nat_lt, ◌&&◌, ◌||◌, not, Bool, true, false, if◌then◌else◌, List, [], ◌∷◌, Option, Some, None, take, length}
use Rattle.std.specs.List.{list_all}
use Rattle.goref_lines.specs.Kept.{is_control_byte, is_hash, spaced}
use Rattle.goref_lines.specs.Words.{is_plain_space}
use Rattle.goref_lines.specs.declared.line.TheConstants.{LINE_LIMIT}

-- the prefix of a text that is kept, and whether the text is longer
pub record KeepsPrefix (text : List ℕ) (is_long : Bool) (whole : List ℕ) : Type 0 where
  pub prefix : text ≡ take LINE_LIMIT whole
  pub longer : is_long ≡ nat_lt LINE_LIMIT (length whole)

-- bytes of a word, and a space before them where one is due
abbrev pub with_space : Bool → List ℕ → List ℕ
with_space has_space word = if has_space then 32 ∷ word else word

-- a byte of white space: a space or HT
abbrev pub is_blank_byte : ℕ → Bool
is_blank_byte b = is_plain_space (spaced b)

-- a byte of a word: neither a control, nor the sign of a comment, nor a space
abbrev pub is_word_byte : ℕ → Bool
is_word_byte b = not (is_control_byte b) && (not (is_hash b) && not (is_blank_byte b))

-- the bytes go on with words that are joined by single spaces, after a byte of a word or after none, up to
-- the end of a word
abbrev pub goes_on_joined : Bool → List ℕ → Bool
goes_on_joined after_word [] = after_word
goes_on_joined after_word (b ∷ bytes) = if is_word_byte b then goes_on_joined true bytes else
    ((is_plain_space b && after_word) && goes_on_joined false bytes)

-- one word or more, joined by single spaces
abbrev pub AreJoined : List ℕ → Type 0
AreJoined bytes = goes_on_joined false bytes ≡ true

-- where the words before a place end, the last of which begins at a start: if it has no byte yet, they end
-- before the space that comes before it
abbrev pub end_of_words : ℕ → ℕ → ℕ
end_of_words start place = if nat_lt start place then place else start - 1

-- a byte between words: a control or white space
abbrev pub is_gap_byte : ℕ → Bool
is_gap_byte b = is_control_byte b || is_blank_byte b

abbrev pub AreBetweenWords : List ℕ → Type 0
AreBetweenWords bytes = list_all is_gap_byte bytes ≡ true

abbrev pub last_of : List ℕ → Option ℕ
last_of [] = None
last_of (b ∷ []) = Some b
last_of (b ∷ c ∷ bytes) = last_of (c ∷ bytes)

-- whether white space came last after more bytes: their last byte decides it, where there is one
abbrev pub space_after : Bool → Option ℕ → Bool
space_after has_space None = has_space
space_after has_space (Some b) = is_plain_space (spaced b)
