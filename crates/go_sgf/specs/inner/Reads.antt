-- What the parts of the reader have read, up to the rest. It serves the contracts of private functions alone.
use Rattle.std.specs.Prelude.{◌≡◌, ◌≢◌, ◌<◌, ◌≤◌, ◌+◌, ◌==◌, ◌||◌, not, Bool, false, ℕ, List, [], ◌∷◌, ◌++◌, length, map, slice_index}
use Rattle.std.specs.List.{flat_map, AllByRecursion}
use Rattle.go_sgf.specs.Record.{Property, IsValue, IsProperty, AreTrees, depth, TreeValue, is_letter_byte}
use Rattle.go_sgf.specs.Spelling.{is_space, without_space, closing, value_part, SpellsParts, property_parts, node_parts, parts}
use Rattle.go_sgf.specs.declared.limits.TheConstants.{MAX_DEPTH}

pub record ReadsValues (b : List ℕ) (vs : List (List ℕ)) (rest : List ℕ) : Type 0 where
  pub some : vs ≢ []
  pub inside : AllByRecursion IsValue vs
  pub spelling : SpellsParts b (map value_part vs) rest

pub record ReadsProperty (b : List ℕ) (p : Property) (rest : List ℕ) : Type 0 where
  pub fit : IsProperty p
  pub spelling : SpellsParts b (property_parts p) rest

pub record ReadsNode (b : List ℕ) (ps : List Property) (rest : List ℕ) : Type 0 where
  pub fit : AllByRecursion IsProperty ps
  pub spelling : SpellsParts b (flat_map property_parts ps) rest

pub record ReadsNodes (b : List ℕ) (ns : List (List Property)) (rest : List ℕ) : Type 0 where
  pub some : ns ≢ []
  pub fit : AllByRecursion (AllByRecursion IsProperty) ns
  pub spelling : SpellsParts b (flat_map node_parts ns) rest

-- a tree at this depth, from after its `(` to after its `)`
pub record ReadsTree (d : ℕ) (b : List ℕ) (t : TreeValue) (rest : List ℕ) : Type 0 where
  pub some : t.0 ≢ []
  pub nodes : AllByRecursion (AllByRecursion IsProperty) t.0
  pub children : AreTrees t.1
  pub nesting : depth t.1 + d ≤ MAX_DEPTH
  pub spelling : SpellsParts b (flat_map node_parts t.0 ++ (parts t.1 ++ (closing ∷ []))) rest

-- the same, where this follows its `)`
pub record ReadsToEnd (d : ℕ) (b : List ℕ) (t : TreeValue) (after : List ℕ) : Type 0 where
  pub tree : ReadsTree d b t (without_space after)
  pub closed : SpellsParts b (flat_map node_parts t.0 ++ parts t.1) (41 ∷ after)

-- neither `]` nor `\`
abbrev pub is_ordinary : ℕ → Bool
is_ordinary c = not (c == 93 || c == 92)

-- a `]` is at this place
abbrev pub IsBracketAt : List ℕ → ℕ → Type 0
IsBracketAt b place = (place < length b) × (slice_index b place ≡ 93)

-- no value ends in the bytes
abbrev pub HasNoEnd : List ℕ → Type 0
HasNoEnd b = (v more : List ℕ) → IsValue v → b ≡ v ++ (93 ∷ more) → ⊥

abbrev pub begins_space : List ℕ → Bool
begins_space [] = false
begins_space (c ∷ cs) = is_space c

abbrev pub is_letter_first : List ℕ → Bool
is_letter_first [] = false
is_letter_first (c ∷ cs) = is_letter_byte c
