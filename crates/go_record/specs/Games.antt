-- The game of a record: that of the main line of its first tree.
use Rattle.std.specs.Prelude.{◌≡◌, ◌*◌, ℕ, ℤ, pos, Bool, true, false, ◌==◌, ◌||◌, if◌then◌else◌, List, [], ◌∷◌, Option, Some, None, Err, codes, drop, position, replicate, take}
use Rattle.go_board.specs.Sizes.{size_with}
use Rattle.std.specs.List.{list_all}
use Rattle.std.specs.Option.{option_and_then}
use Rattle.go_sgf.specs.MainLine.{main_line}
use Rattle.go_sgf.specs.Numbers.{hundredths_by, number_in}
use Rattle.go_sgf.specs.Record.{Property, Trees, none, tree}
use Rattle.go_sgf.specs.Spelling.{is_space}
use Rattle.go_record.specs.declared.error.RecordError.{RecordError}
use Rattle.go_record.specs.declared.error.RecordError.TheVariants.{BadKomi, BadSize, NotGo}
use Rattle.go_record.specs.declared.root.TheConstants.{USUAL_LINES}
use Rattle.go_record.specs.MainLine.{events_from, leading_value, is_named, looked_at}
use Rattle.go_record.specs.Walks.{Outcome, SetsUp}

-- the properties of the first node of the first tree
abbrev pub first_of : List (List Property) → List Property
first_of [] = []
first_of (ps ∷ nodes) = ps

abbrev pub first_node : Trees → List Property
first_node none = []
first_node (tree nodes children later) = first_of nodes

-- the first value of the first property with this name, or nothing
abbrev pub value_named : List ℕ → List Property → List ℕ
value_named name [] = []
value_named name (p ∷ ps) = if is_named name p then leading_value p.values else value_named name ps

abbrev pub value_at_root : List ℕ → Trees → List ℕ
value_at_root name c = value_named name (first_node c)

-- nothing but white space
abbrev pub is_blank_value : List ℕ → Bool
is_blank_value value = list_all is_space value

abbrev pub is_number_one : Option ℕ → Bool
is_number_one None = false
is_number_one (Some n) = n == 1

-- the game is Go: the value is blank or the number 1
abbrev pub is_go_value : List ℕ → Bool
is_go_value value = is_blank_value value || is_number_one (number_in value)

-- columns and rows, where they are equal
abbrev pub number_of_both : Option ℕ → Option ℕ → Option ℕ
number_of_both (Some m) (Some n) = if m == n then Some m else None
number_of_both _ _ = None

-- one number, or two with a `:` between them
abbrev pub number_by : List ℕ → Option ℕ → Option ℕ
number_by value None = number_in value
number_by value (Some k) = number_of_both (number_in (take k value)) (number_in (drop 1 (drop k value)))

abbrev pub lines_in : List ℕ → Option ℕ
lines_in value =
    if is_blank_value value then Some USUAL_LINES
    else option_and_then size_with (number_by value (position (λ b. b == 58) value))

abbrev pub komi_in : List ℕ → Option ℤ
komi_in value = if is_blank_value value then Some (pos 0) else hundredths_by value

-- the outcome with the value, or this refusal
abbrev pub OrElse : {X : Type 0} → RecordError → Option X → Outcome → (X → Type 0) → Type 0
OrElse error None outcome Later = outcome ≡ Err error
OrElse error (Some x) outcome Later = Later x

-- a test that is needed, or this refusal
abbrev pub Needs : RecordError → Bool → Outcome → Type 0 → Type 0
Needs error false outcome Later = outcome ≡ Err error
Needs error true outcome Later = Later

-- The outcome of a record, or of the moves before the move of a number where one is given: first GM, SZ and
-- KM are judged, and then the main line on an empty board.
unfoldable pub IsGameOf : Trees → Option ℕ → Outcome → Type 0
IsGameOf c number outcome =
    Needs NotGo (is_go_value (value_at_root (codes "GM") c)) outcome
    (OrElse BadSize (lines_in (value_at_root (codes "SZ") c)) outcome (λ n.
    OrElse BadKomi (komi_in (value_at_root (codes "KM") c)) outcome (λ komi.
    SetsUp n komi (replicate (n * n) None) None (looked_at number (events_from 0 (main_line c))) outcome)))
