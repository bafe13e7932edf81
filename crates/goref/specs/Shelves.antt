-- What a shelf was asked for, and what it gave.
use Rattle.std.specs.Prelude.{ℕ, List, Option, option_map, ◌++◌}
use Rattle.goref_session.specs.Contents.{Content}

-- a name, and what was fetched for it
abbrev pub Pair : Type 0
Pair = List ℕ × Content

-- the pairs known of a shelf, and then more of them
abbrev pub then_pairs : Option (List Pair) → List Pair → Option (List Pair)
then_pairs known more = option_map (λ pairs. pairs ++ more) known
