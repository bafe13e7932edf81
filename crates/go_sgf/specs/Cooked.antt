-- What a value says as a text, and how a text is put into a value.
use Rattle.std.specs.Prelude.{◌≡◌, ℕ, ◌==◌, ◌&&◌, ◌||◌, not, Bool, true, false, if◌then◌else◌, List, [], ◌∷◌}
use Rattle.std.specs.List.{flat_map, list_all}

-- LF and CR
abbrev pub is_line_break : ℕ → Bool
is_line_break c = c == 10 || c == 13

-- HT, VT and FF become a space
abbrev pub unblanked : ℕ → ℕ
unblanked c = if (c == 9 || c == 11) || c == 12 then 32 else c

-- CR LF and LF CR, which are one line break each
abbrev pub is_break_pair : ℕ → ℕ → Bool
is_break_pair b c = is_line_break b && (is_line_break c && not (c == b))

-- what a byte gives that has no `\` before it, where a line break gives the first byte
abbrev pub given_by : ℕ → ℕ → ℕ
given_by line_break c = if is_line_break c then line_break else unblanked c

-- What a text gives, by its first bytes, where a line break without a `\` before it gives this byte. A `\` gives
-- nothing, and a line break after it nothing either.
unfoldable pub cooked : ℕ → List ℕ → List ℕ
cooked line_break [] = []
cooked line_break (a ∷ []) = if a == 92 then [] else given_by line_break a ∷ []
cooked line_break (a ∷ b ∷ []) =
    if a == 92 then (if is_line_break b then [] else unblanked b ∷ [])
    else (if is_break_pair a b then line_break ∷ [] else given_by line_break a ∷ cooked line_break (b ∷ []))
cooked line_break (a ∷ b ∷ c ∷ t) =
    if a == 92 then
    (if is_break_pair b c then cooked line_break t
    else (if is_line_break b then cooked line_break (c ∷ t) else unblanked b ∷ cooked line_break (c ∷ t)))
    else (if is_break_pair a b then line_break ∷ cooked line_break (c ∷ t)
    else given_by line_break a ∷ cooked line_break (b ∷ c ∷ t))

-- as Text, and as SimpleText
abbrev pub cooked_text : List ℕ → List ℕ
cooked_text t = cooked 10 t

abbrev pub cooked_simple : List ℕ → List ℕ
cooked_simple t = cooked 32 t

abbrev pub escaped_byte : ℕ → List ℕ
escaped_byte c = if c == 92 || c == 93 then 92 ∷ c ∷ [] else c ∷ []

-- a `\` before each `\` and `]`
abbrev pub escaped : List ℕ → List ℕ
escaped t = flat_map escaped_byte t

-- the text begins with the other byte of a line break
abbrev pub goes_on : ℕ → List ℕ → Bool
goes_on b [] = false
goes_on b (c ∷ cs) = is_line_break c && not (c == b)

-- What a text gives, prefix by prefix. CR LF, LF CR, CR and LF are one line break each, the longest first.
pub record CookedByFront (line_break : ℕ) : Type 0 where
  pub empty : cooked line_break [] ≡ []
  pub lone_escape : cooked line_break (92 ∷ []) ≡ []
  pub escaped_pair : (b c : ℕ) (t : List ℕ) → is_line_break b ≡ true → goes_on b (c ∷ t) ≡ true →
      cooked line_break (92 ∷ b ∷ c ∷ t) ≡ cooked line_break t
  pub escaped_break : (b : ℕ) (t : List ℕ) → is_line_break b ≡ true → goes_on b t ≡ false →
      cooked line_break (92 ∷ b ∷ t) ≡ cooked line_break t
  pub escaped_other : (b : ℕ) (t : List ℕ) → is_line_break b ≡ false →
      cooked line_break (92 ∷ b ∷ t) ≡ unblanked b ∷ cooked line_break t
  pub pair : (b c : ℕ) (t : List ℕ) → is_line_break b ≡ true → goes_on b (c ∷ t) ≡ true →
      cooked line_break (b ∷ c ∷ t) ≡ line_break ∷ cooked line_break t
  pub single : (b : ℕ) (t : List ℕ) → is_line_break b ≡ true → goes_on b t ≡ false →
      cooked line_break (b ∷ t) ≡ line_break ∷ cooked line_break t
  pub other : (b : ℕ) (t : List ℕ) → (b == 92) ≡ false → is_line_break b ≡ false →
      cooked line_break (b ∷ t) ≡ unblanked b ∷ cooked line_break t

-- neither CR nor HT, VT and FF
abbrev pub is_kept : ℕ → Bool
is_kept c = not (c == 13) && (unblanked c == c)

-- cooking an escaped text gives the text
abbrev pub CookingUndoesEscaping : Type 0
CookingUndoesEscaping = (t : List ℕ) → list_all is_kept t ≡ true → cooked_text (escaped t) ≡ t
