-- One text has one reading.
use Rattle.std.proofs.Common.{◌≡◌, ◌≢◌, ◌==◌, not, ℕ, List, [], ◌∷◌, ◌++◌, Bool, true, false, refl, sym, ap, subst, ◌∙◌, map, append_assoc, arith}
use Rattle.std.proofs.lemmas.Bool.{and_parts}
use Rattle.std.proofs.lemmas.Bool.Decides.{nat_tests}
use Rattle.std.specs.List.{list_all, flat_map, AllByRecursion}
use Rattle.go_sgf.specs.Record.{Property, Trees, none, tree, is_letter_byte, is_inside, IsValue, IsProperty, AreTrees}
use Rattle.go_sgf.specs.Spelling.{Part, closing, value_part, property_parts, node_parts, parts, without_space, is_tree_first, is_first, tree_in, SpellsParts}
use Rattle.go_sgf.specs.inner.Reads.{begins_space}
use Rattle.go_sgf.specs.inner.Reads.{is_letter_first}
use Rattle.go_sgf.specs.Laws.{OneRecord}
use Rattle.go_sgf.proofs.Parts.{SpellsParts-split, bracket_no_letter, name_letter, after_space-same, no_space_after}
use Rattle.go_sgf.proofs.Stops.{tree_begins}

-- ---- values

-- a value ends at its first `]` that belongs to no `\`
pub value_same : (e : Bool) (v w a b : List ℕ) → is_inside e v ≡ true → is_inside e w ≡ true → v ++ (93 ∷ a) ≡ w
    ++ (93 ∷ b) → (v ≡ w) × (a ≡ b)
value_same true [] w a b h k e = cc
value_same true (c ∷ cs) [] a b h k e = cc
value_same true (c ∷ cs) (d ∷ ds) a b h k e =
    let head : c ≡ d = cc in
    let tail : cs ++ (93 ∷ a) ≡ ds ++ (93 ∷ b) = cc in
    let later = value_same false cs ds a b h k tail in
    (cc (later.0), later.1)
value_same false [] [] a b h k e = (refl, cc)
value_same false [] (d ∷ ds) a b h k e =
    let head : d ≡ 93 = cc in
    let inside : is_inside false (93 ∷ ds) ≡ true = rw head at k in cc
value_same false (c ∷ cs) [] a b h k e =
    let head : c ≡ 93 = cc in
    let inside : is_inside false (93 ∷ cs) ≡ true = rw head at h in cc
value_same false (c ∷ cs) (d ∷ ds) a b h k e =
    let head : c ≡ d = cc in
    let tail : cs ++ (93 ∷ a) ≡ ds ++ (93 ∷ b) = cc in
    let left = and_parts (not (c == 93)) (is_inside (c == 92) cs) h in
    let right = and_parts (not (d == 93)) (is_inside (d == 92) ds) k in
    let P : ℕ → Type 0 = λ x. is_inside (x == 92) ds ≡ true in
    let later = value_same (c == 92) cs ds a b left.1 (subst P (sym head) right.1) tail in
    (cc (later.0), later.1)

values_same : (vs ws : List (List ℕ)) (b r q : List ℕ) → AllByRecursion IsValue vs → AllByRecursion IsValue ws →
    SpellsParts b (map value_part vs) r → SpellsParts b (map value_part ws) q → is_first 91 r ≡ false →
    is_first 91 q ≡ false → (vs ≡ ws) × (r ≡ q)
values_same [] [] b r q i j s t e f = (refl, sym s ∙ t)
values_same [] (w ∷ ws) b r q i j s t e f =
    let is : r ≡ 91 ∷ ((w ++ (93 ∷ [])) ++ t.0) = sym s ∙ t.1 in
    let h : is_first 91 (91 ∷ ((w ++ (93 ∷ [])) ++ t.0)) ≡ false = rw is at e in cc
values_same (v ∷ vs) [] b r q i j s t e f =
    let is : q ≡ 91 ∷ ((v ++ (93 ∷ [])) ++ s.0) = sym t ∙ s.1 in
    let h : is_first 91 (91 ∷ ((v ++ (93 ∷ [])) ++ s.0)) ≡ false = rw is at f in cc
values_same (v ∷ vs) (w ∷ ws) b r q i j s t e f =
    let both : 91 ∷ ((v ++ (93 ∷ [])) ++ s.0) ≡ 91 ∷ ((w ++ (93 ∷ [])) ++ t.0) = sym s.1 ∙ t.1 in
    let inner : (v ++ (93 ∷ [])) ++ s.0 ≡ (w ++ (93 ∷ [])) ++ t.0 = cc in
    let flat : v ++ (93 ∷ s.0) ≡ w ++ (93 ∷ t.0) = sym (append_assoc v (93 ∷ []) s.0) ∙ inner
    ∙ append_assoc w (93 ∷ []) t.0 in
    let first = value_same false v w s.0 t.0 i.0 j.0 flat in
    let P : List ℕ → Type 0 = λ x. SpellsParts x (map value_part ws) q in
    let later = values_same vs ws s.0 r q i.1 j.1 s.2 (subst P (sym first.1) t.2) e f in
    (ap (λ x. x ∷ vs) first.0 ∙ ap (λ x. w ∷ x) later.0, later.1)

-- ---- properties

-- letters end where no letter follows
pub letters_same : (n m a b : List ℕ) → list_all is_letter_byte n ≡ true → list_all is_letter_byte m ≡ true → n ++ a ≡ m
    ++ b →
    is_letter_first a ≡ false → is_letter_first b ≡ false → (n ≡ m) × (a ≡ b)
letters_same [] [] a b h k e f g = (refl, e)
letters_same [] (d ∷ ds) a b h k e f g =
    let parts = and_parts (is_letter_byte d) (list_all is_letter_byte ds) k in
    let is : is_letter_first (d ∷ (ds ++ b)) ≡ false = rw e at f in cc (parts.0)
letters_same (c ∷ cs) [] a b h k e f g =
    let parts = and_parts (is_letter_byte c) (list_all is_letter_byte cs) h in
    let is : is_letter_first (c ∷ (cs ++ a)) ≡ false = rw (← e) at g in cc (parts.0)
letters_same (c ∷ cs) (d ∷ ds) a b h k e f g =
    let head : c ≡ d = cc in
    let tail : cs ++ a ≡ ds ++ b = cc in
    let later = letters_same cs ds a b (and_parts (is_letter_byte c) (list_all is_letter_byte cs) h).1
    (and_parts (is_letter_byte d) (list_all is_letter_byte ds) k).1 tail f g in
    (cc (later.0), later.1)

-- no letter follows a name
no_letter : (vs : List (List ℕ)) (b r : List ℕ) → vs ≢ [] → SpellsParts b (map value_part vs) r →
    is_letter_first b ≡ false
no_letter [] b r some s = absurd (some refl)
no_letter (v ∷ vs) b r some s = bracket_no_letter b ((v ++ (93 ∷ [])) ++ s.0) s.1

abbrev made : List ℕ → List (List ℕ) → Property
made n vs = record { name = n; values = vs }

property_same : (p q : Property) (b r u : List ℕ) → IsProperty p → IsProperty q → SpellsParts b (property_parts p) r →
    SpellsParts b (property_parts q) u →
    is_first 91 r ≡ false → is_first 91 u ≡ false → (p ≡ q) × (r ≡ u)
property_same p q b r u i j s t e f =
    let both : p.name ++ s.0 ≡ q.name ++ t.0 = sym s.1 ∙ t.1 in
    let names = letters_same p.name q.name s.0 t.0 i.named.0 j.named.0 both (no_letter p.values s.0 r i.some s.2)
    (no_letter q.values t.0 u j.some t.2) in
    let P : List ℕ → Type 0 = λ x. SpellsParts x (map value_part q.values) u in
    let values = values_same p.values q.values s.0 r u i.inside j.inside s.2 (subst P (sym names.1) t.2) e f in
    (ap (λ n. made n p.values) names.0 ∙ ap (made q.name) values.0, values.1)

pub letter_no_bracket : (b : List ℕ) → is_letter_first b ≡ true → is_first 91 b ≡ false
letter_no_bracket [] e = refl
letter_no_bracket (c ∷ cs) e = grind (arith, nat_tests)

-- where a property ends
no_bracket : (ps : List Property) (b r : List ℕ) → AllByRecursion IsProperty ps → begins_space b ≡ false →
    SpellsParts b (flat_map property_parts ps) r → is_first 91 r ≡ false → is_first 91 b ≡ false
no_bracket [] b r i w s e = rw (sym (after_space-same b w) ∙ s) e
no_bracket (p ∷ ps) b r i w s e = no_bracket_at p b s.0 i.0 (sym (after_space-same b w) ∙ s.1)
  where
    no_bracket_at : (p : Property) (b more : List ℕ) → IsProperty p → b ≡ p.name ++ more → is_first 91 b ≡ false
    no_bracket_at p b more h is = rw is (letter_no_bracket (p.name ++ more) (name_letter p.name more h.named))

-- what begins a node's rest, after its properties: no letter and no `[`
pub record EndsNode (b : List ℕ) : Type 0 where
  pub letter : is_letter_first b ≡ false
  pub bracket : is_first 91 b ≡ false

properties_same : (ps qs : List Property) (b r u : List ℕ) → AllByRecursion IsProperty ps →
    AllByRecursion IsProperty qs →
    SpellsParts b (flat_map property_parts ps) r → SpellsParts b (flat_map property_parts qs) u → EndsNode r →
    EndsNode u → (ps ≡ qs) × (r ≡ u)
properties_same [] [] b r u i j s t e f = (refl, sym s ∙ t)
properties_same [] (q ∷ qs) b r u i j s t e f =
    let is : r ≡ q.name ++ t.0 = sym s ∙ t.1 in
    let letter : is_letter_first r ≡ true = rw is (name_letter q.name t.0 j.0.named) in
    let none = e.letter in cc
properties_same (p ∷ ps) [] b r u i j s t e f =
    let is : u ≡ p.name ++ s.0 = sym t ∙ s.1 in
    let letter : is_letter_first u ≡ true = rw is (name_letter p.name s.0 i.0.named) in
    let none = f.letter in cc
properties_same (p ∷ ps) (q ∷ qs) b r u i j s t e f =
    let left = SpellsParts-split (property_parts p) (flat_map property_parts ps) b r s in
    let right = SpellsParts-split (property_parts q) (flat_map property_parts qs) b u t in
    let first = property_same p q b left.0 right.0 i.0 j.0 left.1 right.1
    (no_bracket ps left.0 r i.1 (no_space_after (property_parts p) b left.0 left.1) left.2 e.bracket)
    (no_bracket qs right.0 u j.1 (no_space_after (property_parts q) b right.0 right.1) right.2 f.bracket) in
    let P : List ℕ → Type 0 = λ x. SpellsParts x (flat_map property_parts qs) u in
    let later = properties_same ps qs left.0 r u i.1 j.1 left.2 (subst P (sym first.1) right.2) e f in
    (ap (λ x. x ∷ ps) first.0 ∙ ap (λ x. q ∷ x) later.0, later.1)

-- ---- nodes

-- what begins a tree's rest, after its nodes
pub record EndsNodes (b : List ℕ) : Type 0 where
  pub node : EndsNode b
  pub semicolon : is_first 59 b ≡ false

semicolon_ends : (b more : List ℕ) → b ≡ 59 ∷ more → EndsNode b
semicolon_ends b more e = record { letter = rw e refl; bracket = rw e refl }

node_ends : (ns : List (List Property)) (b r : List ℕ) → begins_space b ≡ false →
    SpellsParts b (flat_map node_parts ns) r → EndsNodes r → EndsNode b
node_ends [] b r w s e = let P : List ℕ → Type 0 = λ x. EndsNode x in
    subst P (sym (sym (after_space-same b w) ∙ s)) e.node
node_ends (n ∷ ns) b r w s e = semicolon_ends b s.0 (sym (after_space-same b w) ∙ s.1)

nodes_same : (ns ms : List (List Property)) (b r u : List ℕ) → AllByRecursion (AllByRecursion IsProperty) ns →
    AllByRecursion (AllByRecursion IsProperty) ms →
    SpellsParts b (flat_map node_parts ns) r → SpellsParts b (flat_map node_parts ms) u → EndsNodes r → EndsNodes u →
    (ns ≡ ms) × (r ≡ u)
nodes_same [] [] b r u i j s t e f = (refl, sym s ∙ t)
nodes_same [] (m ∷ ms) b r u i j s t e f =
    let is : r ≡ 59 ∷ t.0 = sym s ∙ t.1 in
    let h : is_first 59 (59 ∷ t.0) ≡ false = rw is at e.semicolon in cc
nodes_same (n ∷ ns) [] b r u i j s t e f =
    let is : u ≡ 59 ∷ s.0 = sym t ∙ s.1 in
    let h : is_first 59 (59 ∷ s.0) ≡ false = rw is at f.semicolon in cc
nodes_same (n ∷ ns) (m ∷ ms) b r u i j s t e f =
    let both : 59 ∷ s.0 ≡ 59 ∷ t.0 = sym s.1 ∙ t.1 in
    let inner : s.0 ≡ t.0 = cc in
    let P : List ℕ → Type 0 = λ x. SpellsParts x (flat_map property_parts m ++ flat_map node_parts ms) u in
    let left = SpellsParts-split (flat_map property_parts n) (flat_map node_parts ns) s.0 r s.2 in
    let right = SpellsParts-split (flat_map property_parts m) (flat_map node_parts ms) s.0 u
    (subst P (sym inner) t.2) in
    let first = properties_same n m s.0 left.0 right.0 i.0 j.0 left.1 right.1
    (node_ends ns left.0 r (no_space_after (flat_map property_parts n) s.0 left.0 left.1) left.2 e)
    (node_ends ms right.0 u (no_space_after (flat_map property_parts m) s.0 right.0 right.1) right.2 f) in
    let Q : List ℕ → Type 0 = λ x. SpellsParts x (flat_map node_parts ms) u in
    let later = nodes_same ns ms left.0 r u i.1 j.1 left.2 (subst Q (sym first.1) right.2) e f in
    (ap (λ x. x ∷ ns) first.0 ∙ ap (λ x. m ∷ x) later.0, later.1)

-- ---- trees

paren_ends : (c : ℕ) (b more : List ℕ) → b ≡ c ∷ more → EndsNodes (c ∷ more) → EndsNodes b
paren_ends c b more e h = let P : List ℕ → Type 0 = λ x. EndsNodes x in subst P (sym e) h

nodes_end : (c : Trees) (ps : List Part) (b r : List ℕ) → begins_space b ≡ false →
    SpellsParts b (parts c ++ (closing ∷ ps)) r → EndsNodes b
nodes_end none ps b r w s =
    paren_ends 41 b s.0 (sym (after_space-same b w) ∙ s.1) record
    { node = record { letter = refl; bracket = refl }; semicolon = refl }
nodes_end (tree nodes children later) ps b r w s =
    paren_ends 40 b s.0 (sym (after_space-same b w) ∙ s.1) record
    { node = record { letter = refl; bracket = refl }; semicolon = refl }

close_ends : (ps : List Part) (b r : List ℕ) → begins_space b ≡ false → SpellsParts b (closing ∷ ps) r →
    is_tree_first b ≡ false
close_ends ps b r w s = let is : b ≡ 41 ∷ s.0 = sym (after_space-same b w) ∙ s.1 in rw is refl

trees_same : (c d : Trees) (b r u : List ℕ) → AreTrees c → AreTrees d → SpellsParts b (parts c) r →
    SpellsParts b (parts d) u →
    is_tree_first r ≡ false → is_tree_first u ≡ false → (c ≡ d) × (r ≡ u)
trees_same none none b r u i j s t e f = (refl, sym s ∙ t)
trees_same none (tree ms ds later) b r u i j s t e f =
    let same : 40 ∷ t.0 ≡ r = sym t.1 ∙ s in
    let h : true ≡ false = sym (tree_begins ms _ t.0 u j.0 t.2) ∙ ap is_tree_first same ∙ e in cc
trees_same (tree ns cs later) none b r u i j s t e f =
    let same : 40 ∷ s.0 ≡ u = sym s.1 ∙ t in
    let h : true ≡ false = sym (tree_begins ns _ s.0 r i.0 s.2) ∙ ap is_tree_first same ∙ f in cc
trees_same (tree ns cs later) (tree ms ds after) b r u i j s t e f =
    let both : 40 ∷ s.0 ≡ 40 ∷ t.0 = sym s.1 ∙ t.1 in
    let inner : s.0 ≡ t.0 = cc in
    let P : List ℕ → Type 0 = λ x. SpellsParts x (flat_map node_parts ms ++ (parts ds ++ (closing ∷ parts after))) u in
    let left = SpellsParts-split (flat_map node_parts ns) (parts cs ++ (closing ∷ parts later)) s.0 r s.2 in
    let right = SpellsParts-split (flat_map node_parts ms) (parts ds ++ (closing ∷ parts after)) s.0 u
    (subst P (sym inner) t.2) in
    let nodes = nodes_same ns ms s.0 left.0 right.0 i.1 j.1 left.1 right.1
    (nodes_end cs (parts later) left.0 r (no_space_after (flat_map node_parts ns) s.0 left.0 left.1) left.2)
    (nodes_end ds (parts after) right.0 u (no_space_after (flat_map node_parts ms) s.0 right.0 right.1) right.2) in
    let Q : List ℕ → Type 0 = λ x. SpellsParts x (parts ds ++ (closing ∷ parts after)) u in
    let left' = SpellsParts-split (parts cs) (closing ∷ parts later) left.0 r left.2 in
    let right' = SpellsParts-split (parts ds) (closing ∷ parts after) left.0 u (subst Q (sym nodes.1) right.2) in
    let children = trees_same cs ds left.0 left'.0 right'.0 i.2 j.2 left'.1 right'.1
    (close_ends (parts later) left'.0 r (no_space_after (parts cs) left.0 left'.0 left'.1) left'.2)
    (close_ends (parts after) right'.0 u (no_space_after (parts ds) left.0 right'.0 right'.1) right'.2) in
    let close = left'.2 in
    let close' = right'.2 in
    let parts_after : 41 ∷ close.0 ≡ 41 ∷ close'.0 = sym close.1 ∙ ap without_space children.1 ∙ close'.1 in
    let rest : close.0 ≡ close'.0 = cc in
    let R : List ℕ → Type 0 = λ x. SpellsParts x (parts after) u in
    let others = trees_same later after close.0 r u i.3 j.3 close.2 (subst R (sym rest) close'.2) e f in (
      ap (λ x. tree x cs later) nodes.0 ∙ ap (λ x. tree ms x later) children.0 ∙ ap (λ x. tree ms ds x) others.0,
      others.1,
    )

pub one_record : OneRecord
one_record b c d s t = (trees_same c d (tree_in b) s.rest t.rest s.fit.trees t.fit.trees s.spelling t.spelling s.ended
    t.ended).0
