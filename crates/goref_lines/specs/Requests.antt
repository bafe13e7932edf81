-- What the words of a line ask for: a command with an id and arguments.
use Rattle.std.specs.Prelude.{ℕ, if◌then◌else◌, List, [], ◌∷◌, Option, Some, None, option_and_then, position, take}
use Rattle.goref_lines.specs.Words.{is_plain_space}
use Rattle.go_board.specs.Decimals.{is_int, digits_value, int_of}

pub record Asked : Type 0 where
  pub id : Option ℕ
  pub name : Option (List ℕ)
  pub arguments : List (List ℕ)

-- a command with this id: its name is the first word, its arguments are the others
abbrev pub asked : Option ℕ → List (List ℕ) → Asked
asked id [] = record { id = id; name = None; arguments = [] }
asked id (word ∷ words) = record { id = id; name = Some word; arguments = words }

-- what the words ask for: a number is the id if it comes first
abbrev pub asked_by : List (List ℕ) → Asked
asked_by [] = asked None []
asked_by (word ∷ words) = if is_int word then asked (Some (digits_value word)) words else asked None (word ∷ words)

-- the id of a text that was cut: what comes before its first space, where that is a number
abbrev pub id_before_space : List ℕ → Option ℕ
id_before_space text = option_and_then (λ end. int_of (take end text)) (position is_plain_space text)
