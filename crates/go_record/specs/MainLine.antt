-- The events of a record's main line, in the order in which they are judged.
use Rattle.std.specs.Prelude.{ℕ, zero, suc, ◌+◌, ◌-◌, if◌then◌else◌, Bool, List, [], ◌∷◌, ◌++◌, Option, Some, None, bytes_eq, codes, option_map, option_to_list}
use Rattle.std.specs.List.{flat_map}
use Rattle.go_board.specs.declared.colour.Colour.{Colour}
use Rattle.go_board.specs.declared.colour.Colour.TheVariants.{Black, White}
use Rattle.go_sgf.specs.Record.{Property, plain_property}

-- lower-case letters of a name don't count
abbrev pub is_named : List ℕ → Property → Bool
is_named name p = bytes_eq (plain_property p).name name

abbrev pub leading_value : List (List ℕ) → List ℕ
leading_value [] = []
leading_value (v ∷ vs) = v

-- by their names: the properties whose points get a colour, where None empties them, and those that are moves
abbrev pub setup_colours : List (List ℕ × Option Colour)
setup_colours = (codes "AB", Some Black) ∷ (codes "AW", Some White) ∷ (codes "AE", None) ∷ []

abbrev pub move_colours : List (List ℕ × Colour)
move_colours = (codes "B", Black) ∷ (codes "W", White) ∷ []

-- what a table has beside the name of a property
abbrev pub beside_name : {X : Type 0} → List (List ℕ × X) → Property → Option X
beside_name [] p = None
beside_name (row ∷ rows) p = if is_named row.0 p then Some row.1 else beside_name rows p

-- What is met, with the number of its node from 0: points that get a colour or are emptied, the
-- colour to move, and a move.
pub data Event : Type 0 where
  stones : ℕ → Option Colour → List (List ℕ) → Event
  turn : ℕ → List ℕ → Event
  move_met : ℕ → Colour → List ℕ → Event

abbrev pub turn_event : ℕ → Property → List Event
turn_event node p = if is_named (codes "PL") p then turn node (leading_value p.values) ∷ [] else []

abbrev pub setup_event : ℕ → Property → List Event
setup_event node p =
    option_to_list (option_map (λ c. stones node c p.values) (beside_name setup_colours p)) ++ turn_event node p

abbrev pub move_event : ℕ → Property → List Event
move_event node p =
    option_to_list (option_map (λ c. move_met node c (leading_value p.values)) (beside_name move_colours p))

-- in each node set-up comes before moves
abbrev pub events_of : ℕ → List Property → List Event
events_of node ps = flat_map (setup_event node) ps ++ flat_map (move_event node) ps

-- of nodes from this number on
abbrev pub events_from : ℕ → List (List Property) → List Event
events_from node [] = []
events_from node (ps ∷ nodes) = events_of node ps ++ events_from (node + 1) nodes

-- the events before the move after this many moves
abbrev pub before_move : ℕ → List Event → List Event
before_move k [] = []
before_move k (stones node colour values ∷ events) = stones node colour values ∷ before_move k events
before_move k (turn node value ∷ events) = turn node value ∷ before_move k events
before_move zero (move_met node colour value ∷ events) = []
before_move (suc k) (move_met node colour value ∷ events) = move_met node colour value ∷ before_move k events

-- the events that are visited: with a number, those before the move of that number. 0 is read as 1.
abbrev pub looked_at : Option ℕ → List Event → List Event
looked_at None events = events
looked_at (Some n) events = before_move (n - 1) events
