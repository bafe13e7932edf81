-- How the parts of the reader pass on what comes of reading.
use Rattle.std.proofs.Common.{◌≡◌, ◌≢◌, ◌≤◌, ◌<◌, ◌+◌, ℕ, List, [], ◌∷◌, ◌++◌, true, false, Result, Err, refl, sym, ap, subst, ◌∙◌, length, map, append_assoc, eqb-true, arith}
use Rattle.std.proofs.lemmas.Grind.{flat_map-append}
use Rattle.std.proofs.lemmas.List.{append-nil, map-append, length-append}
use Rattle.std.specs.List.{list_all, list_any, flat_map, AllByRecursion}
use Rattle.go_sgf.specs.Record.{Property, is_letter_byte, is_upper_byte, IsValue, IsName, IsProperty}
use Rattle.go_sgf.specs.Spelling.{Part, value_part, property_parts, node_parts, without_space, is_first, SpellsParts}
use Rattle.go_sgf.specs.Stands.{opened, in_node, named, gap, in_value, after, closed}
use Rattle.go_sgf.specs.inner.Outcome.{outcome, Meets, IsWithin, here}
use Rattle.go_sgf.specs.inner.Reads.{ReadsValues, ReadsProperty, ReadsNode, ReadsNodes}
use Rattle.go_sgf.specs.inner.Reads.{is_letter_first}
use Rattle.go_sgf.specs.declared.error.ReadError.{ReadError}
use Rattle.go_sgf.specs.declared.error.ReadError.TheVariants.{Memory, End, Stray, Deep}
use Rattle.go_sgf.specs.declared.limits.TheConstants.{MAX_DEPTH}
use Rattle.go_sgf.proofs.Machine as machine
use Rattle.go_sgf.proofs.Parts.{AllByRecursion-push, SpellsParts-append, letter_same, no_space_first, no_space_after, rest_le, length-after_space}

-- ---- exits

pub refuses : {X : Type 0} (f : ReadError) (o : Result (List ℕ) ReadError) (later : X → Result (List ℕ) ReadError) → o ≡ Err f →
    Meets (Err f) o later
refuses Memory o later e = tt
refuses End o later e = e
refuses (Stray n) o later e = e
refuses (Deep n) o later e = e

pub passes : {X Y : Type 0} (f : ReadError) (o o' : Result (List ℕ) ReadError) (later : X → Result (List ℕ) ReadError)
    (later' : Y → Result (List ℕ) ReadError) → o ≡ o' → Meets (Err f) o' later' → Meets (Err f) o later
passes Memory o o' later later' e m = tt
passes End o o' later later' e m = e ∙ m
passes (Stray n) o o' later later' e m = e ∙ m
passes (Deep n) o o' later later' e m = e ∙ m

-- ---- lists

pub push_some : {X : Type 0} (xs : List X) (x : X) → xs ++ x ∷ [] ≢ []
push_some [] x e = cc
push_some (y ∷ ys) x e = cc

pub flat_map-push : {X Y : Type 0} (f : X → List Y) (xs : List X) (x : X) → flat_map f (xs ++ x ∷ []) ≡ flat_map f xs
    ++ f x
flat_map-push f xs x = flat_map-append f xs (x ∷ []) ∙ ap (λ ys. flat_map f xs ++ ys) (append-nil (f x))

pub map-push : {X Y : Type 0} (f : X → Y) (xs ys : List X) (x : X) → ys ≡ xs ++ x ∷ [] → map f ys ≡ map f xs ++ f x ∷ []
map-push f xs ys x e = ap (map f) e ∙ map-append f xs (x ∷ [])

pub shorter : (c : ℕ) (b inside rest : List ℕ) → b ≡ c ∷ inside → length rest ≤ length inside → length rest < length b
shorter c b inside rest e h = omega (arith, ap length e)

-- ---- values

-- the bytes of a value after `[` up to `]`
pub value_spelled : (b v inside more : List ℕ) → b ≡ 91 ∷ inside → inside ≡ v ++ (93 ∷ more) →
    SpellsParts b (value_part v ∷ []) (without_space more)
value_spelled b v inside more e f =
    (more, ap without_space e ∙ ap (λ xs. 91 ∷ xs) (f ∙ sym (append_assoc v (93 ∷ []) more)), refl)

pub values_shorter : (b v inside more : List ℕ) → b ≡ 91 ∷ inside → inside ≡ v ++ (93 ∷ more) →
    length (without_space more) < length b
values_shorter b v inside more e f =
    omega (arith, length-after_space more, ap length e, ap length f, length-append v (93 ∷ more))

module _ (limit : ℕ) where
  bracket_is_after : (d : ℕ) (b : List ℕ) → is_first 91 b ≡ true → outcome limit gap d b ≡ outcome limit after d b
  bracket_is_after d [] e = cc
  bracket_is_after d (c ∷ cs) e =
      let is : c ≡ 91 = eqb-true c 91 e in
      machine.one_step limit gap after d c cs (rw is refl)

  pub values_begin : (d : ℕ) → IsWithin limit d → (b rest : List ℕ) → is_letter_first b ≡ false →
      rest ≡ without_space b →
      is_first 91 rest ≡ true → outcome limit named d b ≡ outcome limit after d rest
  values_begin d h b rest e f g =
      machine.named_white limit d h b e ∙ ap (outcome limit gap d) (sym f) ∙ bracket_is_after d rest g

  pub values_stop : (d : ℕ) → IsWithin limit d → (b rest : List ℕ) → is_letter_first b ≡ false →
      rest ≡ without_space b →
      is_first 91 rest ≡ false → outcome limit named d b ≡ Err (here rest)
  values_stop d h b rest e f g =
      machine.named_white limit d h b e ∙ ap (outcome limit gap d) (sym f)
      ∙ machine.gap_stops limit d rest (rw f (no_space_first b)) g

  pub value_passed : (d : ℕ) → IsWithin limit d → (b v inside more : List ℕ) → b ≡ 91 ∷ inside → inside ≡ v
      ++ (93 ∷ more) → IsValue v →
      outcome limit after d b ≡ outcome limit after d (without_space more)
  value_passed d h b v inside more e f i =
      ap (outcome limit after d) e ∙ machine.goes_on limit after d 91 inside in_value d refl h
      ∙ (ap (outcome limit in_value d) f ∙ machine.value_outcome limit d h false v (93 ∷ more) i)
      ∙ (machine.goes_on limit in_value d 93 more after d refl h ∙ machine.after_value_white limit d h more)

  pub value_endless : (d : ℕ) → IsWithin limit d → (b inside : List ℕ) → b ≡ 91 ∷ inside →
      outcome limit in_value d inside ≡ Err End →
      outcome limit after d b ≡ Err End
  value_endless d h b inside e f =
      ap (outcome limit after d) e ∙ machine.goes_on limit after d 91 inside in_value d refl h ∙ f

-- values read so far
pub record ValuesSoFar (b : List ℕ) (vs : List (List ℕ)) (rest : List ℕ) : Type 0 where
  pub some : vs ≡ [] → is_first 91 rest ≡ true
  pub inside : AllByRecursion IsValue vs
  pub spelling : SpellsParts b (map value_part vs) rest
  pub place : (d : ℕ) → IsWithin MAX_DEPTH d → outcome MAX_DEPTH named d b ≡ outcome MAX_DEPTH after d rest

pub values_first : (b rest : List ℕ) → is_letter_first b ≡ false → rest ≡ without_space b → is_first 91 rest ≡ true →
    ValuesSoFar b [] rest
values_first b rest e f g = record {
  some = λ _. g;
  inside = tt;
  spelling = sym f;
  place = λ d h. values_begin MAX_DEPTH d h b rest e f g;
}

pub values_more : (b : List ℕ) (vs vs' : List (List ℕ)) (rest v inside more : List ℕ) → ValuesSoFar b vs rest → vs' ≡ vs
    ++ v ∷ [] →
    rest ≡ 91 ∷ inside → inside ≡ v ++ (93 ∷ more) → IsValue v → ValuesSoFar b vs' (without_space more)
values_more b vs vs' rest v inside more far e f g i = record {
  some = λ empty. absurd (push_some vs v (sym e ∙ empty));
  inside = rw e (AllByRecursion-push IsValue vs v far.inside i);
  spelling =
      let P : List Part → Type 0 = λ ps. SpellsParts b ps (without_space more) in
      subst P (sym (map-push value_part vs vs' v e))
      (SpellsParts-append (map value_part vs) (value_part v ∷ []) b rest (without_space more) far.spelling
      (value_spelled rest v inside more f g));
  place = λ d h. far.place d h ∙ value_passed MAX_DEPTH d h rest v inside more f g i;
}

pub values_passed : (b : List ℕ) (vs : List (List ℕ)) (rest : List ℕ) → ValuesSoFar b vs rest →
    is_first 91 rest ≡ false →
    (d : ℕ) → IsWithin MAX_DEPTH d → outcome MAX_DEPTH named d b ≡ outcome MAX_DEPTH in_node d rest
values_passed b vs rest far e d h =
    far.place d h ∙ machine.after_is_in_node MAX_DEPTH d rest (no_space_after (map value_part vs) b rest far.spelling) e

-- ---- properties

module _ (limit : ℕ) where
  pub property_begins : (d : ℕ) → IsWithin limit d → (b ds rest : List ℕ) → b ≡ ds ++ rest →
      list_all is_letter_byte ds ≡ true →
      list_any is_upper_byte ds ≡ true → outcome limit in_node d b ≡ outcome limit named d rest
  property_begins d h b ds rest e f g = ap (outcome limit in_node d) e ∙ machine.name_outcome limit d h ds rest f g

  pub property_stops : (d : ℕ) → IsWithin limit d → (b ds rest : List ℕ) → b ≡ ds ++ rest →
      list_all is_letter_byte ds ≡ true →
      list_any is_upper_byte ds ≡ false → is_letter_first b ≡ true → is_letter_first rest ≡ false →
      outcome limit in_node d b ≡ Err (here rest)
  property_stops d h b ds rest e f g k l =
      ap (outcome limit in_node d) e ∙ machine.letters_stop limit d h ds rest f g (rw (← e) k) l

name_long : (n : List ℕ) → IsName n → 1 ≤ length n
name_long [] h = let e = h.1 in cc
name_long (c ∷ cs) h = omega arith

pub property_shorter : (b : List ℕ) (p : Property) (rest : List ℕ) → ReadsProperty b p rest → length rest < length b
property_shorter b p rest r =
    let long : 1 ≤ length p.name = name_long p.name r.fit.named in
    let less : length rest ≤ length r.spelling.0 = rest_le (map value_part p.values) r.spelling.0 rest r.spelling.2 in
    let whole : length (without_space b) ≡ length p.name + length r.spelling.0 = ap length r.spelling.1
    ∙ length-append p.name r.spelling.0 in
    omega (arith, length-after_space b)

-- a name, and the values that follow it
pub property_whole : (b n tail : List ℕ) (vs : List (List ℕ)) (rest : List ℕ) → b ≡ n ++ tail →
    list_all is_letter_byte n ≡ true → list_any is_upper_byte n ≡ true →
    is_letter_first b ≡ true → ReadsValues tail vs rest → ReadsProperty b (record { name = n; values = vs }) rest
property_whole b n tail vs rest e f g letter r = record {
  fit = record { named = (f, g); some = r.some; inside = r.inside };
  spelling = (tail, letter_same b letter ∙ e, r.spelling);
}

-- properties of a node read so far
pub record NodeSoFar (b : List ℕ) (ps : List Property) (rest : List ℕ) : Type 0 where
  pub fit : AllByRecursion IsProperty ps
  pub spelling : SpellsParts b (flat_map property_parts ps) rest
  pub place : (d : ℕ) → IsWithin MAX_DEPTH d → outcome MAX_DEPTH in_node d b ≡ outcome MAX_DEPTH in_node d rest

pub node_first : (b rest : List ℕ) → rest ≡ without_space b → NodeSoFar b [] rest
node_first b rest e = record {
  fit = tt;
  spelling = sym e;
  place = λ d h. machine.in_node_white MAX_DEPTH d h b ∙ ap (outcome MAX_DEPTH in_node d) (sym e);
}

pub node_more : (b : List ℕ) (ps ps' : List Property) (rest : List ℕ) (p : Property) (more : List ℕ) →
    NodeSoFar b ps rest →
    ps' ≡ ps ++ p ∷ [] → ReadsProperty rest p more →
    ((d : ℕ) → IsWithin MAX_DEPTH d → outcome MAX_DEPTH in_node d rest ≡ outcome MAX_DEPTH in_node d more) →
    NodeSoFar b ps' more
node_more b ps ps' rest p more far e r place = record {
  fit = rw e (AllByRecursion-push IsProperty ps p far.fit r.fit);
  spelling =
      let P : List Part → Type 0 = λ qs. SpellsParts b qs more in
      subst P (sym (ap (flat_map property_parts) e ∙ flat_map-push property_parts ps p))
      (SpellsParts-append (flat_map property_parts ps) (property_parts p) b rest more far.spelling r.spelling);
  place = λ d h. far.place d h ∙ place d h;
}

-- ---- nodes

semicolon_no_letter : (b : List ℕ) → is_first 59 b ≡ true → is_letter_first b ≡ false
semicolon_no_letter [] e = refl
semicolon_no_letter (c ∷ cs) e = let is : c ≡ 59 = eqb-true c 59 e in rw is refl

module _ (limit : ℕ) where
  semicolon_is_in_node : (d : ℕ) (b : List ℕ) → is_first 59 b ≡ true →
      outcome limit opened d b ≡ outcome limit in_node d b
  semicolon_is_in_node d [] e = cc
  semicolon_is_in_node d (c ∷ cs) e =
      let is : c ≡ 59 = eqb-true c 59 e in
      machine.one_step limit opened in_node d c cs (rw is refl)

  pub nodes_stop : (d : ℕ) → IsWithin limit d → (b rest : List ℕ) → rest ≡ without_space b → is_first 59 rest ≡ false →
      outcome limit opened d b ≡ Err (here rest)
  nodes_stop d h b rest e f =
      machine.opened_white limit d h b ∙ ap (outcome limit opened d) (sym e)
      ∙ machine.opened_stops limit d rest (rw e (no_space_first b)) f

  -- past a `;`
  pub into_node : (d : ℕ) → IsWithin limit d → (b inside : List ℕ) → b ≡ 59 ∷ inside →
      outcome limit in_node d b ≡ outcome limit in_node d inside
  into_node d h b inside e = ap (outcome limit in_node d) e ∙ machine.goes_on limit in_node d 59 inside in_node d refl h

-- nodes read so far
pub record NodesSoFar (b : List ℕ) (ns : List (List Property)) (rest : List ℕ) : Type 0 where
  pub some : ns ≡ [] → is_first 59 rest ≡ true
  pub fit : AllByRecursion (AllByRecursion IsProperty) ns
  pub spelling : SpellsParts b (flat_map node_parts ns) rest
  pub letters : is_letter_first rest ≡ false
  pub place : (d : ℕ) → IsWithin MAX_DEPTH d → outcome MAX_DEPTH opened d b ≡ outcome MAX_DEPTH in_node d rest

pub nodes_first : (b rest : List ℕ) → rest ≡ without_space b → is_first 59 rest ≡ true → NodesSoFar b [] rest
nodes_first b rest e f = record {
  some = λ _. f;
  fit = tt;
  spelling = sym e;
  letters = semicolon_no_letter rest f;
  place = λ d h. machine.opened_white MAX_DEPTH d h b ∙ ap (outcome MAX_DEPTH opened d) (sym e)
      ∙ semicolon_is_in_node MAX_DEPTH d rest f;
}

pub nodes_more : (b : List ℕ) (ns ns' : List (List Property)) (rest inside : List ℕ) (n : List Property)
    (more : List ℕ) → NodesSoFar b ns rest →
    ns' ≡ ns ++ n ∷ [] → rest ≡ 59 ∷ inside → ReadsNode inside n more → is_letter_first more ≡ false →
    ((d : ℕ) → IsWithin MAX_DEPTH d → outcome MAX_DEPTH in_node d inside ≡ outcome MAX_DEPTH in_node d more) →
    NodesSoFar b ns' more
nodes_more b ns ns' rest inside n more far e f r letters place = record {
  some = λ empty. absurd (push_some ns n (sym e ∙ empty));
  fit = rw e (AllByRecursion-push (AllByRecursion IsProperty) ns n far.fit r.fit);
  spelling =
      let P : List Part → Type 0 = λ qs. SpellsParts b qs more in
      subst P (sym (ap (flat_map node_parts) e ∙ flat_map-push node_parts ns n))
      (SpellsParts-append (flat_map node_parts ns) (node_parts n) b rest more far.spelling
      (inside, ap without_space f, r.spelling));
  letters = letters;
  place = λ d h. far.place d h ∙ into_node MAX_DEPTH d h rest inside f ∙ place d h;
}

pub nodes_whole : (b : List ℕ) (ns : List (List Property)) (rest : List ℕ) → NodesSoFar b ns rest →
    is_first 59 rest ≡ false → ReadsNodes b ns rest
nodes_whole b ns rest far e = record {
  some = λ empty. let h = far.some empty in cc;
  fit = far.fit;
  spelling = far.spelling;
}

pub nodes_passed : (b : List ℕ) (ns : List (List Property)) (rest : List ℕ) → NodesSoFar b ns rest →
    is_first 59 rest ≡ false →
    (d : ℕ) → IsWithin MAX_DEPTH d → outcome MAX_DEPTH opened d b ≡ outcome MAX_DEPTH closed d rest
nodes_passed b ns rest far e d h =
    far.place d h
    ∙ machine.in_node_is_closed MAX_DEPTH d rest (no_space_after (flat_map node_parts ns) b rest far.spelling) e
    far.letters
