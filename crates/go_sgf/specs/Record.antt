-- Records as plain data: trees of nodes, nodes of properties.
use Rattle.std.specs.Prelude.{◌≡◌, ◌≢◌, ◌≤◌, ℕ, suc, max, ◌==◌, ◌&&◌, ◌||◌, not, nat_le, Bool, true, false, List, [], ◌∷◌, map, filter}
use Rattle.std.specs.Borrow.{Bor}
use Rattle.std.specs.List.{list_all, list_any, AllByRecursion}
use Rattle.go_sgf.specs.declared.limits.TheConstants.{MAX_DEPTH}

-- A property: a name and its values, as bytes. A node is its properties.
pub record Property : Type 0 where
  pub name : List ℕ
  pub values : List (List ℕ)

-- the bytes of values that stand in a source
abbrev pub values_of : List (Bor (List ℕ)) → List (List ℕ)
values_of values = map (λ v. v.now) values

-- Trees one after another: none, or a first tree by its nodes and its children, and the trees after it.
pub data Trees : Type 0 where
  none : Trees
  tree : List (List Property) → Trees → Trees → Trees

-- a tree by its nodes and its children
abbrev pub TreeValue : Type 0
TreeValue = List (List Property) × Trees

abbrev pub is_upper_byte : ℕ → Bool
is_upper_byte c = nat_le 65 c && nat_le c 90

abbrev pub is_lower : ℕ → Bool
is_lower c = nat_le 97 c && nat_le c 122

abbrev pub is_letter_byte : ℕ → Bool
is_letter_byte c = is_upper_byte c || is_lower c

-- letters, at least one of them upper-case
abbrev pub IsName : List ℕ → Type 0
IsName n = (list_all is_letter_byte n ≡ true) × (list_any is_upper_byte n ≡ true)

-- A `\` and the byte after it belong together, and no other `]` is inside. A first byte may be escaped from before.
abbrev pub is_inside : Bool → List ℕ → Bool
is_inside escaped [] = not escaped
is_inside true (c ∷ cs) = is_inside false cs
is_inside false (c ∷ cs) = not (c == 93) && is_inside (c == 92) cs

abbrev pub IsValue : List ℕ → Type 0
IsValue v = is_inside false v ≡ true

pub record IsProperty (p : Property) : Type 0 where
  pub named : IsName p.name
  pub some : p.values ≢ []
  pub inside : AllByRecursion IsValue p.values

-- each tree has a node, and its nodes have well-formed names and values
abbrev pub AreTrees : Trees → Type 0
AreTrees none = Unit {0}
AreTrees (tree nodes children later) =
    (nodes ≢ []) × AllByRecursion (AllByRecursion IsProperty) nodes × AreTrees children × AreTrees later

-- how deep the trees are nested
abbrev pub depth : Trees → ℕ
depth none = 0
depth (tree nodes children later) = max (suc (depth children)) (depth later)

-- a record as it can be spelled
pub record IsFit (c : Trees) : Type 0 where
  pub some : c ≢ none
  pub trees : AreTrees c
  pub nesting : depth c ≤ MAX_DEPTH

-- the name without its lower-case letters, which don't count
abbrev pub plain_property : Property → Property
plain_property p = record { name = filter is_upper_byte p.name; values = p.values }

-- the trees with plain names alone
abbrev pub plain : Trees → Trees
plain none = none
plain (tree nodes children later) = tree (map (map plain_property) nodes) (plain children) (plain later)
