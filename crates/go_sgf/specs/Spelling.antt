-- Records as a text: their parts, what spells them, and the one canonical spelling.
use Rattle.std.specs.Prelude.{◌≡◌, ℕ, ◌==◌, ◌&&◌, ◌||◌, nat_le, Bool, false, if◌then◌else◌, List, [], ◌∷◌, ◌++◌, map}
use Rattle.std.specs.List.{flat_map}
use Rattle.go_sgf.specs.Record.{Property, Trees, none, tree, IsFit, plain, plain_property}

-- what a tree is written with
pub data Part : Type 0 where
  opening : Part
  closing : Part
  semicolon : Part
  name : List ℕ → Part
  value_part : List ℕ → Part

-- `(`, `)`, `;`, a name, and a value between `[` and `]`
abbrev pub text : Part → List ℕ
text opening = 40 ∷ []
text closing = 41 ∷ []
text semicolon = 59 ∷ []
text (name n) = n
text (value_part v) = 91 ∷ (v ++ (93 ∷ []))

abbrev pub property_parts : Property → List Part
property_parts p = name p.name ∷ map value_part p.values

abbrev pub node_parts : List Property → List Part
node_parts ps = semicolon ∷ flat_map property_parts ps

-- `(`, the nodes, the children, `)`; then the later trees
abbrev pub parts : Trees → List Part
parts none = []
parts (tree nodes children later) =
    opening ∷ (flat_map node_parts nodes ++ (parts children ++ (closing ∷ parts later)))

-- space, HT, LF, VT, FF and CR
abbrev pub is_space : ℕ → Bool
is_space c = (c == 32) || (nat_le 9 c && nat_le c 13)

-- the text after the white space that it begins with
abbrev pub without_space : List ℕ → List ℕ
without_space [] = []
without_space (c ∷ cs) = if is_space c then without_space cs else c ∷ cs

-- The text is these parts, with white space before and after any of them, and then rest, which begins with no white
-- space.
abbrev pub SpellsParts : List ℕ → List Part → List ℕ → Type 0
SpellsParts b [] rest = without_space b ≡ rest
SpellsParts b (p ∷ ps) rest = (more : List ℕ) × (without_space b ≡ text p ++ more) × SpellsParts more ps rest

abbrev pub is_first : ℕ → List ℕ → Bool
is_first c [] = false
is_first c (d ∷ ds) = d == c

-- the text begins with `(`, and `;` follows, with white space between them or none
abbrev pub is_tree_first : List ℕ → Bool
is_tree_first [] = false
is_tree_first (c ∷ cs) = (c == 40) && is_first 59 (without_space cs)

-- the text from the first tree on
abbrev pub tree_in : List ℕ → List ℕ
tree_in [] = []
tree_in (c ∷ cs) = if is_tree_first (c ∷ cs) then c ∷ cs else tree_in cs

-- The text spells the trees: a prefix without a tree, the trees, and a rest that begins with no tree.
pub record Spells (b : List ℕ) (c : Trees) : Type 0 where
  pub fit : IsFit c
  pub rest : List ℕ
  pub spelling : SpellsParts (tree_in b) (parts c) rest
  pub ended : is_tree_first rest ≡ false

-- the source spells a record, of which this holds
abbrev pub OfRecord : List ℕ → (Trees → Type 0) → Type 0
OfRecord b P = (c : Trees) × Spells b c × P c

-- the text of parts with nothing between them
abbrev pub text_of_parts : List Part → List ℕ
text_of_parts ps = flat_map text ps

-- the text of a tree, with plain names
abbrev pub tree_text : List (List Property) → Trees → List ℕ
tree_text nodes children =
    text_of_parts
    (opening ∷ (flat_map node_parts (map (map plain_property) nodes) ++ (parts (plain children) ++ (closing ∷ []))))

-- each tree's text, then LF
abbrev pub canonical : Trees → List ℕ
canonical none = []
canonical (tree nodes children later) = tree_text nodes children ++ (10 ∷ canonical later)
