-- Values that are numbers: a whole number, and a komi in hundredths.
use Rattle.std.specs.Prelude.{◌≡◌, ◌≤◌, ◌↔◌, ◌⊎◌, ℕ, ℤ, pos, ◌-ℤ◌, ◌==◌, ◌&&◌, ◌||◌, not, nat_le, Bool, true, false, if◌then◌else◌, List, [], ◌∷◌, ◌++◌, Option, Some, None, codes, drop, length, option_map, position, reverse, take, unwrap_or}
use Rattle.std.specs.Char.{is_ascii_digit}
use Rattle.std.specs.List.{list_all}
use Rattle.go_sgf.specs.Spelling.{without_space}
use Rattle.go_board.specs.Decimals.{int_of, is_empty, digits_value}
use Rattle.go_board.specs.declared.decimals.TheConstants.{MAX_KOMI}

-- without the white space at the end
abbrev pub trimmed_end : List ℕ → List ℕ
trimmed_end v = reverse (without_space (reverse v))

-- without the white space at both ends
abbrev pub trimmed : List ℕ → List ℕ
trimmed v = trimmed_end (without_space v)

abbrev pub after_plus : List ℕ → List ℕ
after_plus [] = []
after_plus (c ∷ cs) = if c == 43 then cs else c ∷ cs

-- an optional `+` and digits
abbrev pub number_in : List ℕ → Option ℕ
number_in v = int_of (after_plus (trimmed v))

-- a sign, if there is one, and whether it is a minus sign
abbrev pub IsSign : List ℕ → Bool → Type 0
IsSign sign true = sign ≡ codes "-"
IsSign sign false = (sign ≡ []) ⊎ (sign ≡ codes "+")

-- a point and the decimals after it, if there is one
abbrev pub IsTail : List ℕ → List ℕ → Type 0
IsTail tail decimals = ((tail ≡ []) × (decimals ≡ [])) ⊎ (tail ≡ 46 ∷ decimals)

-- digits, at least one in all, and none but 0 after the second decimal
abbrev pub is_decimal : List ℕ → List ℕ → Bool
is_decimal whole decimals =
    ((list_all is_ascii_digit whole && list_all is_ascii_digit decimals)
    && (not (is_empty whole) || not (is_empty decimals)))
    && list_all (λ c. c == 48) (drop 2 decimals)

-- the digits with two decimals
abbrev pub hundredths_in : List ℕ → List ℕ → ℕ
hundredths_in whole decimals = digits_value (whole ++ take 2 (decimals ++ codes "00"))

abbrev pub with_sign : Bool → ℕ → ℤ
with_sign minus size = if minus then pos 0 -ℤ pos size else pos size

-- The word of a komi: a sign or none, digits, and decimals after a point. The komi is counted in hundredths.
pub record SpellsKomi (word : List ℕ) (k : ℤ) : Type 0 where
  pub minus : Bool
  pub sign : List ℕ
  pub whole : List ℕ
  pub tail : List ℕ
  pub decimals : List ℕ
  pub text : word ≡ sign ++ (whole ++ tail)
  pub signed : IsSign sign minus
  pub tailed : IsTail tail decimals
  pub digits : is_decimal whole decimals ≡ true
  pub few : hundredths_in whole decimals ≤ MAX_KOMI
  pub value : k ≡ with_sign minus (hundredths_in whole decimals)

-- a number begins with a minus sign
abbrev pub has_minus : List ℕ → Bool
has_minus [] = false
has_minus (c ∷ cs) = c == 45

-- a number without its sign
abbrev pub after_sign : List ℕ → List ℕ
after_sign [] = []
after_sign (c ∷ cs) = if c == 43 || c == 45 then cs else c ∷ cs

-- the place of the point, or of the number's end
abbrev pub point_place : List ℕ → ℕ
point_place number = unwrap_or (position (λ c. c == 46) number) (length number)

-- what comes before the point, and what comes after it
abbrev pub whole_part : List ℕ → List ℕ
whole_part number = take (point_place number) number

abbrev pub decimals_in : List ℕ → List ℕ
decimals_in number = drop 1 (drop (point_place number) number)

abbrev pub size_by : List ℕ → List ℕ → Option ℕ
size_by whole decimals =
    if is_decimal whole decimals && nat_le (hundredths_in whole decimals) MAX_KOMI
    then Some (hundredths_in whole decimals) else None

-- the size of a number without a sign, in hundredths
abbrev pub size_of_number : List ℕ → Option ℕ
size_of_number number = size_by (whole_part number) (decimals_in number)

-- the komi that a word spells
abbrev pub komi_of : List ℕ → Option ℤ
komi_of word = option_map (with_sign (has_minus word)) (size_of_number (after_sign word))

abbrev pub hundredths_by : List ℕ → Option ℤ
hundredths_by v = komi_of (trimmed v)

-- a word's komi is the one that it spells
abbrev pub KomiIsSpelled : Type 0
KomiIsSpelled = (word : List ℕ) (k : ℤ) → (komi_of word ≡ Some k) ↔ SpellsKomi word k
