-- The canonical text spells the record with plain names.
use Rattle.std.proofs.Common.{◌≡◌, ◌≢◌, inl, inr, ℕ, suc, max, List, [], ◌∷◌, ◌++◌, true, refl, sym, ap, subst, ◌∙◌, map, append_assoc}
use Rattle.std.proofs.lemmas.Bool.{cases_Bool, and_parts}
use Rattle.std.specs.List.{list_all, list_any, flat_map, filter, AllByRecursion}
use Rattle.go_sgf.specs.Record.{Property, Trees, none, tree, is_letter_byte, is_upper_byte, IsName, IsProperty, AreTrees, depth, IsFit, plain, plain_property}
use Rattle.go_sgf.specs.Spelling.{Part, opening, closing, semicolon, name, value_part, text, text_of_parts, node_parts, property_parts, parts, without_space, tree_in, tree_text, canonical, SpellsParts}
use Rattle.go_sgf.specs.inner.Reads.{is_letter_first}
use Rattle.go_sgf.specs.Laws.{CanonicalSpellsPlain}
use Rattle.go_sgf.proofs.Parts.{AllByRecursion-append, SpellsParts-append, SpellsParts-same, after_space-again, letter_same}

-- ---- parts that begin with no white space

abbrev Begins : Part → Type 0
Begins opening = Unit {0}
Begins closing = Unit {0}
Begins semicolon = Unit {0}
Begins (name n) = is_letter_first n ≡ true
Begins (value_part v) = Unit {0}

letter_then : (n b : List ℕ) → is_letter_first n ≡ true → is_letter_first (n ++ b) ≡ true
letter_then [] b e = cc
letter_then (c ∷ cs) b e = e

no_white : (p : Part) (b : List ℕ) → Begins p → without_space (text p ++ b) ≡ text p ++ b
no_white opening b h = refl
no_white closing b h = refl
no_white semicolon b h = refl
no_white (name n) b h = letter_same (n ++ b) (letter_then n b h)
no_white (value_part v) b h = refl

joined_spells : (ps : List Part) (rest : List ℕ) → AllByRecursion Begins ps →
    SpellsParts (text_of_parts ps ++ rest) ps (without_space rest)
joined_spells [] rest h = refl
joined_spells (p ∷ ps) rest h = (
  text_of_parts ps ++ rest,
  ap without_space (append_assoc (text p) (text_of_parts ps) rest)
      ∙ no_white p (text_of_parts ps ++ rest) h.0,
  joined_spells ps rest h.1,
)

name_begins : (n : List ℕ) → IsName n → is_letter_first n ≡ true
name_begins [] h = let e = h.1 in cc
name_begins (c ∷ cs) h = (and_parts (is_letter_byte c) (list_all is_letter_byte cs) h.0).0

values_begin : (vs : List (List ℕ)) → AllByRecursion Begins (map value_part vs)
values_begin [] = tt
values_begin (v ∷ vs) = (tt, values_begin vs)

properties_begin : (ps : List Property) → AllByRecursion IsProperty ps →
    AllByRecursion Begins (flat_map property_parts ps)
properties_begin [] h = tt
properties_begin (p ∷ ps) h =
    AllByRecursion-append Begins (property_parts p) (flat_map property_parts ps)
    (name_begins p.name h.0.named, values_begin p.values)
    (properties_begin ps h.1)

nodes_begin : (ns : List (List Property)) → AllByRecursion (AllByRecursion IsProperty) ns →
    AllByRecursion Begins (flat_map node_parts ns)
nodes_begin [] h = tt
nodes_begin (n ∷ ns) h =
    AllByRecursion-append Begins (node_parts n) (flat_map node_parts ns) (tt, properties_begin n h.0)
    (nodes_begin ns h.1)

trees_begin : (c : Trees) → AreTrees c → AllByRecursion Begins (parts c)
trees_begin none h = tt
trees_begin (tree nodes children later) h = (
  tt,
  AllByRecursion-append Begins (flat_map node_parts nodes) (parts children ++ (closing ∷ parts later))
      (nodes_begin nodes h.1)
      (AllByRecursion-append Begins (parts children) (closing ∷ parts later) (trees_begin children h.2)
      (tt, trees_begin later h.3)),
)

-- ---- plain names

letters_kept : (n : List ℕ) → list_all is_letter_byte (filter is_upper_byte n) ≡ true
letters_kept [] = refl
letters_kept (c ∷ cs) = elim (cases_Bool (is_upper_byte c)) [
  | inl e ↦ rw (e, letters_kept cs) (rw e refl)
  | inr e ↦ rw e (letters_kept cs)
]

upper_kept : (n : List ℕ) → list_any is_upper_byte n ≡ true → list_any is_upper_byte (filter is_upper_byte n) ≡ true
upper_kept [] h = h
upper_kept (c ∷ cs) h = elim (cases_Bool (is_upper_byte c)) [
  | inl e ↦ rw e (rw e refl)
  | inr e ↦ let any : list_any is_upper_byte cs ≡ true = rw e at h in rw e (upper_kept cs any)
]

filter-filter : (n : List ℕ) → filter is_upper_byte (filter is_upper_byte n) ≡ filter is_upper_byte n
filter-filter [] = refl
filter-filter (c ∷ cs) = elim (cases_Bool (is_upper_byte c)) [
  | inl e ↦ rw e (rw e (ap (λ xs. c ∷ xs) (filter-filter cs)))
  | inr e ↦ rw e (filter-filter cs)
]

plain_is_property : (p : Property) → IsProperty p → IsProperty (plain_property p)
plain_is_property p h = record {
  named = (letters_kept p.name, upper_kept p.name h.named.1);
  some = h.some;
  inside =
      h.inside;
}

all_plain : {X : Type 0} (P : X → Type 0) (f : X → X) → ((x : X) → P x → P (f x)) → (xs : List X) →
    AllByRecursion P xs → AllByRecursion P (map f xs)
all_plain P f keeps [] h = tt
all_plain P f keeps (x ∷ xs) h = (keeps x h.0, all_plain P f keeps xs h.1)

map_some : {X Y : Type 0} (f : X → Y) (xs : List X) → xs ≢ [] → map f xs ≢ []
map_some f [] some e = some refl
map_some f (x ∷ xs) some e = cc

plain_trees : (c : Trees) → AreTrees c → AreTrees (plain c)
plain_trees none h = tt
plain_trees (tree nodes children later) h = (
  map_some (map plain_property) nodes h.0,
  all_plain (AllByRecursion IsProperty) (map plain_property) (all_plain IsProperty plain_property plain_is_property)
      nodes h.1,
  plain_trees children h.2,
  plain_trees later h.3,
)

plain_depth : (c : Trees) → depth (plain c) ≡ depth c
plain_depth none = refl
plain_depth (tree nodes children later) =
    ap (λ k. max (suc k) (depth (plain later))) (plain_depth children)
    ∙ ap (λ k. max (suc (depth children)) k) (plain_depth later)

plain_some : (c : Trees) → c ≢ none → plain c ≢ none
plain_some none some e = some refl
plain_some (tree nodes children later) some e = cc

plain_fit : (c : Trees) → IsFit c → IsFit (plain c)
plain_fit c h = record {
  some = plain_some c h.some;
  trees = plain_trees c h.trees;
  nesting = rw (plain_depth c) h.nesting;
}

same_map : {X : Type 0} (f : X → X) → ((x : X) → f (f x) ≡ f x) → (xs : List X) → map f (map f xs) ≡ map f xs
same_map f again [] = refl
same_map f again (x ∷ xs) = ap (λ y. y ∷ map f (map f xs)) (again x) ∙ ap (λ ys. f x ∷ ys) (same_map f again xs)

abbrev with_name : List (List ℕ) → List ℕ → Property
with_name vs n = record { name = n; values = vs }

property-again : (p : Property) → plain_property (plain_property p) ≡ plain_property p
property-again p = ap (with_name p.values) (filter-filter p.name)

nodes-again : (ns : List (List Property)) →
    map (map plain_property) (map (map plain_property) ns) ≡ map (map plain_property) ns
nodes-again ns = same_map (map plain_property) (same_map plain_property property-again) ns

plain-again : (c : Trees) → plain (plain c) ≡ plain c
plain-again none = refl
plain-again (tree nodes children later) =
    ap (λ ns. tree ns (plain (plain children)) (plain (plain later))) (nodes-again nodes)
    ∙ ap (λ t. tree (map (map plain_property) nodes) t (plain (plain later))) (plain-again children)
    ∙ ap (λ t. tree (map (map plain_property) nodes) (plain children) t) (plain-again later)

canonical-again : (c : Trees) → canonical (plain c) ≡ canonical c
canonical-again none = refl
canonical-again (tree nodes children later) =
    ap (λ ns. text_of_parts (opening ∷ (flat_map node_parts ns ++ (parts (plain (plain children)) ++ (closing ∷ []))))
    ++ (10 ∷ canonical (plain later)))
    (nodes-again nodes)
    ∙ ap (λ t. text_of_parts (opening ∷
    (flat_map node_parts (map (map plain_property) nodes) ++ (parts t ++ (closing ∷ []))))
    ++ (10 ∷ canonical (plain later)))
    (plain-again children)
    ∙ ap (λ xs. tree_text nodes children ++ (10 ∷ xs)) (canonical-again later)

-- ---- the canonical text

canonical_parts : (c : Trees) → AreTrees (plain c) → SpellsParts (canonical c) (parts (plain c)) []
canonical_parts none h = refl
canonical_parts (tree nodes children later) h =
    let prefix : List Part = flat_map node_parts (map (map plain_property) nodes) in
    let first : List Part = opening ∷ (prefix ++ (parts (plain children) ++ (closing ∷ []))) in
    let rest : List ℕ = 10 ∷ canonical later in
    let begins : AllByRecursion Begins first = (
      tt,
      AllByRecursion-append Begins prefix (parts (plain children) ++ (closing ∷ []))
          (nodes_begin (map (map plain_property) nodes) h.1)
          (AllByRecursion-append Begins (parts (plain children)) (closing ∷ []) (trees_begin (plain children) h.2)
          (tt, tt)),
    ) in
    let later_spelled : SpellsParts (without_space rest) (parts (plain later)) [] =
    SpellsParts-same (parts (plain later)) (canonical later) (without_space rest) [] (sym (after_space-again rest))
    (canonical_parts later h.3) in
    let whole : first ++ parts (plain later) ≡ parts (plain (tree nodes children later)) =
    ap (λ ps. opening ∷ ps)
    (append_assoc prefix (parts (plain children) ++ (closing ∷ [])) (parts (plain later))
    ∙ ap (λ ps. prefix ++ ps) (append_assoc (parts (plain children)) (closing ∷ []) (parts (plain later)))) in
    let P : List Part → Type 0 = λ ps. SpellsParts (canonical (tree nodes children later)) ps [] in
    subst P whole
    (SpellsParts-append first (parts (plain later)) (text_of_parts first ++ rest) (without_space rest) []
    (joined_spells first rest begins) later_spelled)

canonical_begins : (c : Trees) → c ≢ none → AreTrees c → tree_in (canonical c) ≡ canonical c
canonical_begins none some h = refl
canonical_begins (tree [] children later) some h = absurd (h.0 refl)
canonical_begins (tree (n ∷ ns) children later) some h = refl

pub canonical_spells_plain : CanonicalSpellsPlain
canonical_spells_plain c h =
    let P : List ℕ → Type 0 = λ b. SpellsParts b (parts (plain c)) [] in (
      record {
        fit = plain_fit c h;
        rest = [];
        spelling = subst P (sym (canonical_begins c h.some h.trees)) (canonical_parts c (plain_trees c h.trees));
        ended = refl;
      },
      canonical-again c,
    )
