-- Lists with room for one element in place.
use Rattle.std.specs.Prelude.{List, [], ◌∷◌}
use Rattle.go_sgf.specs.declared.few.Held.{Held}
use Rattle.go_sgf.specs.declared.few.Held.TheVariants.{None, One, Many}

abbrev pub items_in : {T A : Type 0} → Held T A → List T
items_in None = []
items_in (One single) = single.item ∷ []
items_in (Many list) = list.items
