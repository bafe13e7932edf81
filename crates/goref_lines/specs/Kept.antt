-- What a line keeps: no controls, no comment, tabs as spaces, its words joined by single spaces, and of that
-- as many bytes as a line may have.
use Rattle.std.specs.Prelude.{ℕ, ◌==◌, ◌&&◌, ◌||◌, not, nat_lt, Bool, false, if◌then◌else◌, List, [], ◌∷◌, map, filter, take, length}
use Rattle.std.specs.List.{list_any}
use Rattle.goref_lines.specs.Words.{has_bytes, is_plain_space, single_spaced}
use Rattle.goref_lines.specs.declared.line.TheConstants.{LINE_LIMIT}

-- a control: a byte below 32 other than HT, or 127
abbrev pub is_control_byte : ℕ → Bool
is_control_byte b = (nat_lt b 32 && not (b == 9)) || b == 127

-- `#`, which begins a comment
abbrev pub is_hash : ℕ → Bool
is_hash b = b == 35

-- a byte with HT as a space
abbrev pub spaced : ℕ → ℕ
spaced b = if b == 9 then 32 else b

-- the bytes that are no controls
abbrev pub printable : List ℕ → List ℕ
printable line = filter (λ b. not (is_control_byte b)) line

-- what comes before the first `#`
abbrev pub before_comment : List ℕ → List ℕ
before_comment [] = []
before_comment (b ∷ line) = if is_hash b then [] else b ∷ before_comment line

-- a line without controls and comment, and with spaces for tabs
abbrev pub cleaned : List ℕ → List ℕ
cleaned line = map spaced (before_comment (printable line))

-- whether the last byte of a text is a space
abbrev pub ends_with_space : List ℕ → Bool
ends_with_space [] = false
ends_with_space (b ∷ []) = is_plain_space b
ends_with_space (b ∷ c ∷ text) = ends_with_space (c ∷ text)

-- What is kept of a line: a prefix of its words so joined, and whether they were longer. For the bytes that
-- may follow it also has whether a comment has begun, and whether a space came after the last word.
pub record Kept : Type 0 where
  pub text : List ℕ
  pub is_long : Bool
  pub has_comment : Bool
  pub has_space : Bool

-- what is kept of a line's bytes
unfoldable pub kept : List ℕ → Kept
kept line = record {
  text = take LINE_LIMIT (single_spaced (cleaned line));
  is_long = nat_lt LINE_LIMIT (length (single_spaced (cleaned line)));
  has_comment = list_any is_hash (printable line);
  has_space = has_bytes (single_spaced (cleaned line)) && ends_with_space (cleaned line);
}
