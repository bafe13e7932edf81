-- What properties and lists of trees hold.
use Rattle.std.specs.Prelude.{ℕ, List, [], ◌∷◌, Option, Vec, map, option_map}
use Rattle.std.specs.Borrow.{Bor}
use Rattle.go_sgf.specs.Record.{Property, TreeValue, values_of}
use Rattle.go_sgf.specs.View.{tree_of}
use Rattle.go_sgf.specs.declared.nodes.Item.{Item}
use Rattle.go_sgf.specs.declared.nodes.Item.TheVariants.{Letter, Letters, Other}
use Rattle.go_sgf.specs.declared.record.Tree.{Tree}

-- a property by its name and its values
abbrev pub property_of : List ℕ → List (Bor (List ℕ)) → Property
property_of name values = record { name = name; values = values_of values }

abbrev pub property_in : {A : Type 0} → Item A → Property
property_in (Letter name value) = property_of name (value ∷ [])
property_in (Letters name value) = property_of name (value ∷ [])
property_in (Other named) = property_of named.value.name.now named.value.values

-- the trees of a list, where there is one
abbrev pub trees_in : {A B : Type 0} → Option (Vec (Tree A) B) → Option (List TreeValue)
trees_in = option_map (λ list. map tree_of list.items)
