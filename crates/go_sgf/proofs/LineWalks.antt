-- How a walk along the main line of a record goes on: what its text begins with, and what follows that.
use Rattle.std.proofs.Common.{◌≡◌, ◌≢◌, ◌<◌, ◌≤◌, ℕ, List, [], ◌∷◌, ◌++◌, true, false, true≢false, refl, sym, ap, subst, ◌∙◌, length, map, append_assoc, arith}
use Rattle.std.proofs.lemmas.List.{append-nil}
use Rattle.std.specs.Prelude.{Option, Some, None, IfNone, IfSome}
use Rattle.std.specs.Borrow.{Bor}
use Rattle.std.specs.List.{list_all, flat_map, AllByRecursion}
use Rattle.go_sgf.specs.MainLine.{IsLeft, NextNode, main_line}
use Rattle.go_sgf.specs.Record.{Property, Trees, none, tree, AreTrees, IsProperty, IsValue, is_letter_byte}
use Rattle.go_sgf.specs.Spelling.{Part, closing, value_part, property_parts, node_parts, parts, without_space, is_first, tree_in, Spells, SpellsParts}
use Rattle.go_sgf.specs.inner.Reads.{HasNoEnd, is_letter_first}
use Rattle.go_sgf.proofs.Parts.{SpellsParts-same, after_space-again, after_space-same, bracket_no_letter, name_letter}
use Rattle.go_sgf.proofs.Tidied.{trimmed_first}
use Rattle.go_sgf.proofs.Unambiguous.{letter_no_bracket, letters_same, value_same}

-- ---- what a text begins with

-- the parts after the properties of a node
abbrev pub node_rest : List (List Property) → Trees → List Part → List Part
node_rest own children later = flat_map node_parts own ++ (parts children ++ (closing ∷ later))

-- the parts after the values of a property
abbrev pub property_rest : List Property → List (List Property) → Trees → List Part → List Part
property_rest ps own children later = flat_map property_parts ps ++ node_rest own children later

-- neither a letter nor a `[`
record BeginsOther (b : List ℕ) : Type 0 where
  letter : is_letter_first b ≡ false
  bracket : is_first 91 b ≡ false

begins_other : (own : List (List Property)) (children : Trees) (later : List Part) (b rest : List ℕ) →
    SpellsParts b (node_rest own children later) rest →
    BeginsOther (without_space b)
begins_other (n ∷ ns) children later b rest s = record { letter = rw s.1 refl; bracket = rw s.1 refl }
begins_other [] none later b rest s = record { letter = rw s.1 refl; bracket = rw s.1 refl }
begins_other [] (tree ms cs l) later b rest s = record { letter = rw s.1 refl; bracket = rw s.1 refl }

begins_no_value : (ps : List Property) (own : List (List Property)) (children : Trees) (later : List Part)
    (b rest : List ℕ) → AllByRecursion IsProperty ps →
    SpellsParts b (property_rest ps own children later) rest → is_first 91 (without_space b) ≡ false
begins_no_value [] own children later b rest i s = (begins_other own children later b rest s).bracket
begins_no_value (p ∷ ps) own children later b rest i s =
    rw s.1 (letter_no_bracket (p.name ++ s.0) (name_letter p.name s.0 i.0.named))

-- white space before what is left is no matter
after_more_space : (b : List ℕ) (vs : List (List ℕ)) (ps : List Property) (ns : List (List Property)) → IsLeft b vs ps ns →
    IsLeft (without_space b) vs ps ns
after_more_space b vs ps ns l = record {
  own = l.own;
  children = l.children;
  later = l.later;
  rest = l.rest;
  inside = l.inside;
  named = l.named;
  fit = l.fit;
  trees = l.trees;
  spelling = SpellsParts-same (map value_part vs ++ property_rest ps l.own l.children l.later) b (without_space b)
      l.rest (sym (after_space-again b)) l.spelling;
  line = l.line;
}

-- ---- values

no_value : (vs : List (List ℕ)) (qs : List Part) (b rest : List ℕ) → SpellsParts b (map value_part vs ++ qs) rest →
    is_first 91 (without_space b) ≡ false → vs ≡ []
no_value [] qs b rest s e = refl
no_value (v ∷ vs) qs b rest s e = absurd (true≢false (sym (ap (is_first 91) s.1) ∙ e))

-- no value is left
pub value_none : (b : List ℕ) (vs : List (List ℕ)) (ps : List Property) (ns : List (List Property)) →
    IsLeft b vs ps ns → is_first 91 (without_space b) ≡ false →
    (vs ≡ []) × IsLeft (without_space b) [] ps ns
value_none b vs ps ns l e =
    let none_is = no_value vs (property_rest ps l.own l.children l.later) b l.rest l.spelling e in
    (none_is, subst (λ (ws : List (List ℕ)). IsLeft (without_space b) ws ps ns) none_is (after_more_space b vs ps ns l))

no_endless : (vs : List (List ℕ)) (ps : List Property) (own : List (List Property)) (children : Trees)
    (later : List Part) (b rest inside : List ℕ) →
    AllByRecursion IsValue vs → AllByRecursion IsProperty ps →
    SpellsParts b (map value_part vs ++ property_rest ps own children later) rest →
    without_space b ≡ 91 ∷ inside → HasNoEnd inside → ⊥
no_endless [] ps own children later b rest inside i j s e h =
    true≢false (sym (ap (is_first 91) e) ∙ begins_no_value ps own children later b rest j s)
no_endless (v ∷ vs) ps own children later b rest inside i j s e h =
    let both : 91 ∷ inside ≡ 91 ∷ ((v ++ (93 ∷ [])) ++ s.0) = sym e ∙ s.1 in
    let inner : inside ≡ (v ++ (93 ∷ [])) ++ s.0 = cc in
    h v s.0 i.0 (inner ∙ append_assoc v (93 ∷ []) s.0)

-- a value has an end
pub value_ended : (b inside : List ℕ) (vs : List (List ℕ)) (ps : List Property) (ns : List (List Property)) →
    IsLeft b vs ps ns → without_space b ≡ 91 ∷ inside →
    HasNoEnd inside → ⊥
value_ended b inside vs ps ns l e h =
    no_endless vs ps l.own l.children l.later b l.rest inside l.inside l.named l.spelling e h

first_value : (vs : List (List ℕ)) (ps : List Property) (own : List (List Property)) (children : Trees)
    (later : List Part) (b rest inside one more : List ℕ) →
    AllByRecursion IsValue vs → AllByRecursion IsProperty ps →
    SpellsParts b (map value_part vs ++ property_rest ps own children later) rest →
    without_space b ≡ 91 ∷ inside → inside ≡ one ++ (93 ∷ more) → IsValue one →
    (ws : List (List ℕ)) × (vs ≡ one ∷ ws) × AllByRecursion IsValue ws
    × SpellsParts more (map value_part ws ++ property_rest ps own children later) rest
first_value [] ps own children later b rest inside one more i j s e f k =
    absurd (true≢false (sym (ap (is_first 91) e) ∙ begins_no_value ps own children later b rest j s))
first_value (v ∷ vs) ps own children later b rest inside one more i j s e f k =
    let both : 91 ∷ inside ≡ 91 ∷ ((v ++ (93 ∷ [])) ++ s.0) = sym e ∙ s.1 in
    let inner : inside ≡ (v ++ (93 ∷ [])) ++ s.0 = cc in
    let same = value_same false v one s.0 more i.0 k (sym (append_assoc v (93 ∷ []) s.0) ∙ sym inner ∙ f) in (
      vs,
      ap (λ x. x ∷ vs) same.0,
      i.1,
      subst (λ (xs : List ℕ). SpellsParts xs (map value_part vs ++ property_rest ps own children later) rest) same.1
          s.2,
    )

-- a value is the next one
pub value_next : (b inside one more : List ℕ) (vs : List (List ℕ)) (ps : List Property) (ns : List (List Property)) →
    IsLeft b vs ps ns →
    without_space b ≡ 91 ∷ inside → inside ≡ one ++ (93 ∷ more) → IsValue one → (ws : List (List ℕ)) × (vs ≡ one ∷ ws)
    × IsLeft more ws ps ns
value_next b inside one more vs ps ns l e f k =
    let next = first_value vs ps l.own l.children l.later b l.rest inside one more l.inside l.named l.spelling e f k in (
      next.0,
      next.1,
      record {
        own = l.own;
        children = l.children;
        later = l.later;
        rest = l.rest;
        inside = next.2;
        named = l.named;
        fit = l.fit;
        trees = l.trees;
        spelling = next.3;
        line = l.line;
      },
    )

-- ---- properties

no_name : (ps : List Property) (qs : List Part) (b rest : List ℕ) → AllByRecursion IsProperty ps →
    SpellsParts b (flat_map property_parts ps ++ qs) rest →
    is_letter_first (without_space b) ≡ false → ps ≡ []
no_name [] qs b rest i s e = refl
no_name (p ∷ ps) qs b rest i s e =
    absurd (true≢false (sym (name_letter p.name s.0 i.0.named) ∙ sym (ap is_letter_first s.1) ∙ e))

-- no property is left
pub name_none : (b : List ℕ) (ps : List Property) (ns : List (List Property)) → IsLeft b [] ps ns →
    is_letter_first (without_space b) ≡ false →
    (ps ≡ []) × IsLeft (without_space b) [] [] ns
name_none b ps ns l e =
    let none_is = no_name ps (node_rest l.own l.children l.later) b l.rest l.named l.spelling e in
    (none_is, subst (λ (qs : List Property). IsLeft (without_space b) [] qs ns) none_is (after_more_space b [] ps ns l))

no_letter : (vs : List (List ℕ)) (qs : List Part) (b r : List ℕ) → vs ≢ [] → SpellsParts b (map value_part vs ++ qs) r →
    is_letter_first b ≡ false
no_letter [] qs b r some s = absurd (some refl)
no_letter (v ∷ vs) qs b r some s = bracket_no_letter b ((v ++ (93 ∷ [])) ++ s.0) s.1

first_name : (ps : List Property) (own : List (List Property)) (children : Trees) (later : List Part)
    (b rest name after : List ℕ) →
    AllByRecursion IsProperty ps → SpellsParts b (property_rest ps own children later) rest →
    without_space b ≡ name ++ after → list_all is_letter_byte name ≡ true → is_letter_first after ≡ false →
    is_letter_first (without_space b) ≡ true →
    (p : Property) × (qs : List Property) × (ps ≡ p ∷ qs) × (name ≡ p.name) × IsProperty p
    × AllByRecursion IsProperty qs
    × SpellsParts after (map value_part p.values ++ property_rest qs own children later) rest
first_name [] own children later b rest name after i s e f g letter =
    absurd (true≢false (sym letter ∙ (begins_other own children later b rest s).letter))
first_name (p ∷ ps) own children later b rest name after i s e f g letter =
    let values : SpellsParts s.0 (map value_part p.values ++ property_rest ps own children later) rest =
    subst (λ (qs : List Part). SpellsParts s.0 qs rest)
    (append_assoc (map value_part p.values) (flat_map property_parts ps) (node_rest own children later)) s.2 in
    let same = letters_same p.name name s.0 after i.0.named.0 f (sym s.1 ∙ e)
    (no_letter p.values (property_rest ps own children later) s.0 rest i.0.some values) g in (
      p,
      ps,
      refl,
      sym same.0,
      i.0,
      i.1,
      subst (λ (xs : List ℕ). SpellsParts xs (map value_part p.values ++ property_rest ps own children later) rest)
          same.1 values,
    )

-- a name is that of the next property
pub name_next : (b name after : List ℕ) (ps : List Property) (ns : List (List Property)) → IsLeft b [] ps ns →
    without_space b ≡ name ++ after → list_all is_letter_byte name ≡ true → is_letter_first after ≡ false →
    is_letter_first (without_space b) ≡ true →
    (p : Property) × (qs : List Property) × (ps ≡ p ∷ qs) × (name ≡ p.name) × IsLeft after p.values qs ns
name_next b name after ps ns l e f g letter =
    let next = first_name ps l.own l.children l.later b l.rest name after l.named l.spelling e f g letter in (
      next.0,
      next.1,
      next.2,
      next.3,
      record {
        own = l.own;
        children = l.children;
        later = l.later;
        rest = l.rest;
        inside = next.4.inside;
        named = next.5;
        fit = l.fit;
        trees = l.trees;
        spelling = next.6;
        line = l.line;
      },
    )

-- ---- nodes

no_node : (own : List (List Property)) (children : Trees) (later : List Part) (b rest : List ℕ) →
    SpellsParts b (node_rest own children later) rest →
    is_first 40 (without_space b) ≡ false → is_first 59 (without_space b) ≡ false → own ++ main_line children ≡ []
no_node (n ∷ ns) children later b rest s e f = absurd (true≢false (sym (ap (is_first 59) s.1) ∙ f))
no_node [] none later b rest s e f = refl
no_node [] (tree ms cs l) later b rest s e f = absurd (true≢false (sym (ap (is_first 40) s.1) ∙ e))

-- no node is left
pub node_none : (b : List ℕ) (ns : List (List Property)) → IsLeft b [] [] ns → is_first 40 (without_space b) ≡ false →
    is_first 59 (without_space b) ≡ false → ns ≡ []
node_none b ns l e f = l.line ∙ no_node l.own l.children l.later b l.rest l.spelling e f

first_node : (own : List (List Property)) (children : Trees) (later : List Part) (b rest inside : List ℕ) →
    AllByRecursion (AllByRecursion IsProperty) own →
    SpellsParts b (node_rest own children later) rest → without_space b ≡ 59 ∷ inside →
    (ps : List Property) × (more : List (List Property)) × (own ≡ ps ∷ more) × AllByRecursion IsProperty ps
    × AllByRecursion (AllByRecursion IsProperty) more
    × SpellsParts inside (property_rest ps more children later) rest
first_node (n ∷ ns) children later b rest inside i s e =
    let both : 59 ∷ s.0 ≡ 59 ∷ inside = sym s.1 ∙ e in
    let inner : s.0 ≡ inside = cc in (
      n,
      ns,
      refl,
      i.0,
      i.1,
      subst (λ (xs : List ℕ). SpellsParts xs (property_rest n ns children later) rest) inner
          (subst (λ (qs : List Part). SpellsParts s.0 qs rest)
          (append_assoc (flat_map property_parts n) (flat_map node_parts ns) (parts children ++ (closing ∷ later)))
          s.2),
    )
first_node [] none later b rest inside i s e = absurd (true≢false (sym (ap (is_first 41) s.1) ∙ ap (is_first 41) e))
first_node [] (tree ms cs l) later b rest inside i s e =
    absurd (true≢false (sym (ap (is_first 40) s.1) ∙ ap (is_first 40) e))

-- a node is the next one
pub node_next : (b inside : List ℕ) (ns : List (List Property)) → IsLeft b [] [] ns → without_space b ≡ 59 ∷ inside →
    (ps : List Property) × (more : List (List Property)) × (ns ≡ ps ∷ more) × IsLeft inside [] ps more
node_next b inside ns l e =
    let next = first_node l.own l.children l.later b l.rest inside l.fit l.spelling e in (
      next.0,
      next.1 ++ main_line l.children,
      l.line ∙ ap (λ own. own ++ main_line l.children) next.2,
      record {
        own = next.1;
        children = l.children;
        later = l.later;
        rest = l.rest;
        inside = tt;
        named = next.3;
        fit = next.4;
        trees = l.trees;
        spelling = next.5;
        line = refl;
      },
    )

-- ---- children

-- after a tree's `(`
tree_left : (ms : List (List Property)) (cs l : Trees) (ps : List Part) (inside rest : List ℕ) →
    AreTrees (tree ms cs l) →
    SpellsParts inside ((flat_map node_parts ms ++ (parts cs ++ (closing ∷ parts l))) ++ ps) rest →
    IsLeft inside [] [] (ms ++ main_line cs)
tree_left ms cs l ps inside rest fit s = record {
  own = ms;
  children = cs;
  later = parts l ++ ps;
  rest = rest;
  inside = tt;
  named = tt;
  fit = fit.1;
  trees = fit.2;
  spelling =
      let whole : (flat_map node_parts ms ++ (parts cs ++ (closing ∷ parts l)))
      ++ ps ≡ node_rest ms cs (parts l ++ ps) = simp append_assoc in
      subst (λ (qs : List Part). SpellsParts inside qs rest) whole s;
  line = refl;
}

semicolon_first : (ms : List (List Property)) (qs : List Part) (b rest : List ℕ) → ms ≢ [] →
    SpellsParts b (flat_map node_parts ms ++ qs) rest →
    is_first 59 (without_space b) ≡ true
semicolon_first [] qs b rest some s = absurd (some refl)
semicolon_first (m ∷ ms) qs b rest some s = rw s.1 refl

first_child : (own : List (List Property)) (children : Trees) (later : List Part) (b rest inside : List ℕ) →
    AreTrees children →
    SpellsParts b (node_rest own children later) rest → without_space b ≡ 40 ∷ inside →
    IsLeft inside [] [] (own ++ main_line children) × (is_first 59 (without_space inside) ≡ true)
first_child (n ∷ ns) children later b rest inside i s e =
    absurd (true≢false (sym (ap (is_first 59) s.1) ∙ ap (is_first 59) e))
first_child [] none later b rest inside i s e = absurd (true≢false (sym (ap (is_first 41) s.1) ∙ ap (is_first 41) e))
first_child [] (tree ms cs l) later b rest inside i s e =
    let both : 40 ∷ s.0 ≡ 40 ∷ inside = sym s.1 ∙ e in
    let inner : s.0 ≡ inside = cc in
    let whole : (flat_map node_parts ms ++ (parts cs ++ (closing ∷ parts l)))
    ++ (closing ∷ later) ≡ node_rest ms cs (parts l ++ (closing ∷ later)) = simp append_assoc in (
      subst (λ (xs : List ℕ). IsLeft xs [] [] (ms ++ main_line cs)) inner
          (tree_left ms cs l (closing ∷ later) s.0 rest i s.2),
      subst (λ (xs : List ℕ). is_first 59 (without_space xs) ≡ true) inner
          (semicolon_first ms (parts cs ++ (closing ∷ (parts l ++ (closing ∷ later)))) s.0 rest i.0
          (subst (λ (qs : List Part). SpellsParts s.0 qs rest) whole s.2)),
    )

-- the line goes on in a child
pub child_next : (b inside : List ℕ) (ns : List (List Property)) → IsLeft b [] [] ns → without_space b ≡ 40 ∷ inside →
    IsLeft inside [] [] ns × (is_first 59 (without_space inside) ≡ true)
child_next b inside ns l e =
    let next = first_child l.own l.children l.later b l.rest inside l.trees l.spelling e in
    (subst (λ (ms : List (List Property)). IsLeft inside [] [] ms) (sym l.line) next.0, next.1)

-- ---- the first tree

first_tree : (c : Trees) (b rest inside : List ℕ) → c ≢ none → AreTrees c → SpellsParts b (parts c) rest →
    without_space b ≡ 40 ∷ inside →
    IsLeft inside [] [] (main_line c)
first_tree none b rest inside some fit s e = absurd (some refl)
first_tree (tree ms cs l) b rest inside some fit s e =
    let both : 40 ∷ s.0 ≡ 40 ∷ inside = sym s.1 ∙ e in
    let inner : s.0 ≡ inside = cc in
    let all : List Part = flat_map node_parts ms ++ (parts cs ++ (closing ∷ parts l)) in
    subst (λ (xs : List ℕ). IsLeft xs [] [] (ms ++ main_line cs)) inner
    (tree_left ms cs l [] s.0 rest fit (subst (λ (qs : List Part). SpellsParts s.0 qs rest) (sym (append-nil all)) s.2))

-- at first the whole line is left
pub line_first : (source inside : List ℕ) (c : Trees) → Spells source c → tree_in source ≡ 40 ∷ inside →
    IsLeft inside [] [] (main_line c)
line_first source inside c s e =
    first_tree c (tree_in source) s.rest inside s.fit.some s.fit.trees s.spelling
    (after_space-same (tree_in source) (trimmed_first source) ∙ e)

no_first : (c : Trees) (b rest : List ℕ) → c ≢ none → SpellsParts b (parts c) rest →
    is_first 40 (without_space b) ≡ false → ⊥
no_first none b rest some s e = some refl
no_first (tree ms cs l) b rest some s e = true≢false (sym (ap (is_first 40) s.1) ∙ e)

-- what spells a record has a first tree
pub some_first : (source : List ℕ) (c : Trees) → Spells source c → is_first 40 (tree_in source) ≡ false → ⊥
some_first source c s e =
    no_first c (tree_in source) s.rest s.fit.some s.spelling
    (ap (is_first 40) (after_space-same (tree_in source) (trimmed_first source)) ∙ e)

-- ---- what a step gives

pub shorter_rest : (r : Option (Bor (List ℕ))) (b here : List ℕ) → length here ≤ length b →
    IfSome r (λ x. here ≡ 59 ∷ x.now) → IfSome r (λ x. length x.now < length b)
shorter_rest None b here less h = tt
shorter_rest (Some x) b here less h = omega (arith, less, ap length h)

pub child_entered : (r : Option (Bor (List ℕ))) (b child : List ℕ) → without_space b ≡ 40 ∷ child →
    IfSome r (λ x. without_space child ≡ 59 ∷ x.now) →
    IfSome r (λ x. (ns : List (List Property)) → IsLeft b [] [] ns → NextNode true ns x.now)
child_entered None b child e h = tt
child_entered (Some x) b child e h = λ ns l. node_next child x.now ns (child_next b child ns l e).0 h

pub child_missing : (r : Option (Bor (List ℕ))) (b child : List ℕ) → without_space b ≡ 40 ∷ child →
    IfNone r (is_first 59 (without_space child) ≡ false) →
    IfNone r ((ns : List (List Property)) → IsLeft b [] [] ns → ns ≡ [])
child_missing None b child e h = λ ns l. absurd (true≢false (sym (child_next b child ns l e).1 ∙ h))
child_missing (Some x) b child e h = tt

pub node_entered : (r : Option (Bor (List ℕ))) (b : List ℕ) → IfSome r (λ x. without_space b ≡ 59 ∷ x.now) →
    IfSome r (λ x. (ns : List (List Property)) → IsLeft b [] [] ns → NextNode true ns x.now)
node_entered None b h = tt
node_entered (Some x) b h = λ ns l. node_next b x.now ns l h

pub node_missing : (r : Option (Bor (List ℕ))) (b : List ℕ) → is_first 40 (without_space b) ≡ false →
    IfNone r (is_first 59 (without_space b) ≡ false) →
    IfNone r ((ns : List (List Property)) → IsLeft b [] [] ns → ns ≡ [])
node_missing None b e h = λ ns l. node_none b ns l e h
node_missing (Some x) b e h = tt

-- a name has a letter
pub name_some : (name after : List ℕ) → is_letter_first (name ++ after) ≡ true → is_letter_first after ≡ false →
    1 ≤ length name
name_some [] after e f = absurd (true≢false (sym e ∙ f))
name_some (c ∷ cs) after e f = omega arith

-- what is left after white space begins with none
pub none_again : (r : Option (Bor (List ℕ))) (b here : List ℕ) → IfNone r (here ≡ without_space b) →
    IfNone r (here ≡ without_space here)
none_again None b here h = h ∙ sym (ap without_space h ∙ after_space-again b)
none_again (Some x) b here h = tt
