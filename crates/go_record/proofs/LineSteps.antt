-- How a walk goes along the text of a main line, step by step.
use Rattle.std.proofs.Common.{◌≡◌, ℕ, List, [], ◌∷◌, refl, sym, ap}
use Rattle.go_sgf.specs.MainLine.{main_line}
use Rattle.go_sgf.specs.Record.{AreTrees, Property, Trees, none, tree}
use Rattle.go_record.specs.Games.{first_node}
use Rattle.go_record.specs.MainLine.{leading_value}

-- the first value of a property
pub value_leads : (value : List ℕ) (values later : List (List ℕ)) → values ≡ value ∷ later →
    value ≡ leading_value values
value_leads value values later e = sym (ap leading_value e)

-- ---- the root

-- the first node of the line is that of the first tree
pub first_is : (t : Trees) (node : List Property) (later : List (List Property)) → AreTrees t →
    main_line t ≡ node ∷ later → first_node t ≡ node
first_is none node later fit e = cc
first_is (tree [] cs l) node later fit e = absurd (fit.0 refl)
first_is (tree (n ∷ ns) cs l) node later fit e = cc

pub no_first : (t : Trees) → AreTrees t → main_line t ≡ [] → first_node t ≡ []
no_first none fit e = refl
no_first (tree [] cs l) fit e = refl
no_first (tree (n ∷ ns) cs l) fit e = cc
