-- Numbers that decimal digits spell.
use Rattle.std.specs.Prelude.{ℕ, ◌+◌, ◌-◌, ◌*◌, ◌&&◌, not, nat_le, Bool, true, false, if◌then◌else◌, List, [], ◌∷◌, Option, Some, None, fold}
use Rattle.std.specs.Char.{is_ascii_digit}
use Rattle.std.specs.List.{list_all}
use Rattle.go_board.specs.declared.decimals.TheConstants.{MAX_INT}

abbrev pub is_empty : List ℕ → Bool
is_empty [] = true
is_empty (c ∷ cs) = false

-- the value of decimal digits
abbrev pub digits_value : List ℕ → ℕ
digits_value digits = fold (λ value c. 10 * value + (c - 48)) 0 digits

-- one or more digits, with a value that is at most MAX_INT
abbrev pub is_int : List ℕ → Bool
is_int word = (not (is_empty word) && list_all is_ascii_digit word) && nat_le (digits_value word) MAX_INT

-- the number that a word spells
abbrev pub int_of : List ℕ → Option ℕ
int_of word = if is_int word then Some (digits_value word) else None
