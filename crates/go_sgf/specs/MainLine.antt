-- The main line of a record: its nodes, and what of it is left at a place of the record's text.
use Rattle.std.specs.Prelude.{◌≡◌, ℕ, Bool, true, false, List, [], ◌∷◌, ◌++◌, Option, Some, None, map}
use Rattle.std.specs.Borrow.{Bor}
use Rattle.std.specs.List.{flat_map, AllByRecursion}
use Rattle.go_sgf.specs.Record.{Property, Trees, none, tree, AreTrees, IsProperty, IsValue}
use Rattle.go_sgf.specs.Spelling.{Part, closing, value_part, property_parts, node_parts, parts, SpellsParts}

-- the nodes of the first tree, then those of its first child, and so on
abbrev pub main_line : Trees → List (List Property)
main_line none = []
main_line (tree nodes children later) = nodes ++ main_line children

-- What is left of a main line: values of a property, the properties after it in its node, and the nodes after that.
-- The text goes on with them and closes their tree:
--     [value].. PROPERTY[value].. ;node.. (child.. ) )
-- where `own` are the nodes that stand in this tree itself, and `children` has the main line's others.
pub record IsLeft (text : List ℕ) (values : List (List ℕ)) (properties : List Property)
    (nodes : List (List Property)) : Type 0 where
  pub own : List (List Property)
  pub children : Trees
  pub later : List Part
  pub rest : List ℕ
  pub inside : AllByRecursion IsValue values
  pub named : AllByRecursion IsProperty properties
  pub fit : AllByRecursion (AllByRecursion IsProperty) own
  pub trees : AreTrees children
  pub spelling : SpellsParts text (map value_part values ++ (flat_map property_parts properties
      ++ (flat_map node_parts own ++ (parts children ++ (closing ∷ later))))) rest
  pub line : nodes ≡ own ++ main_line children

-- a node was entered, or none is left
abbrev pub NextNode : Bool → List (List Property) → List ℕ → Type 0
NextNode true nodes text = (properties : List Property) × (later : List (List Property))
    × (nodes ≡ properties ∷ later) × IsLeft text [] properties later
NextNode false nodes text = (nodes ≡ []) × IsLeft text [] [] []

-- a property's name was read, or none is left in the node
abbrev pub NextName : Option (Bor (List ℕ)) → List Property → List (List Property) → List ℕ → Type 0
NextName (Some name) properties nodes text = (p : Property) × (later : List Property)
    × (properties ≡ p ∷ later) × (name.now ≡ p.name) × IsLeft text p.values later nodes
NextName None properties nodes text = (properties ≡ []) × IsLeft text [] [] nodes

-- a value was read, or none is left of the property
abbrev pub NextValue : Option (Bor (List ℕ)) → List (List ℕ) → List Property → List (List Property) → List ℕ → Type 0
NextValue (Some value) values properties nodes text = (later : List (List ℕ))
    × (values ≡ value.now ∷ later) × IsLeft text later properties nodes
NextValue None values properties nodes text = (values ≡ []) × IsLeft text [] properties nodes
