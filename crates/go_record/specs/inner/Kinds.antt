-- What a property of a kind does with its values, for the contracts of private functions.
use Rattle.std.specs.Prelude.{◌≡◌, ℕ, List, [], ◌∷◌}
use Rattle.go_sgf.specs.Record.{Property}
use Rattle.go_record.specs.declared.kind.Kind.{Kind}
use Rattle.go_record.specs.declared.kind.Kind.TheVariants.{Stones, Turn, Move, Other}
use Rattle.go_record.specs.MainLine.{Event, leading_value, move_event, move_met, setup_event, stones, turn}

abbrev pub setup_by : ℕ → Kind → List (List ℕ) → List Event
setup_by node (Stones colour) values = stones node colour values ∷ []
setup_by node Turn values = turn node (leading_value values) ∷ []
setup_by node (Move colour) values = []
setup_by node Other values = []

abbrev pub move_by : ℕ → Kind → List (List ℕ) → List Event
move_by node (Move colour) values = move_met node colour (leading_value values) ∷ []
move_by node (Stones colour) values = []
move_by node Turn values = []
move_by node Other values = []

-- the property does what this kind says
pub record IsOfKind (p : Property) (kind : Kind) : Type 0 where
  pub setup : (node : ℕ) → setup_event node p ≡ setup_by node kind p.values
  pub moves : (node : ℕ) → move_event node p ≡ move_by node kind p.values
