-- What is written of a tree's text, byte by byte and part by part, and what follows the tree.
use Rattle.std.proofs.Common.{◌≡◌, ◌≢◌, ◌==◌, ◌-◌, ◌+◌, not, ℕ, zero, suc, List, [], ◌∷◌, ◌++◌, ◌<◌, ◌≤◌, length, take, drop, get_or, Bool, true, false, if◌then◌else◌, refl, sym, ap, subst, ◌∙◌, map, append_assoc, inl, inr, arith}
use Rattle.std.proofs.lemmas.Bool.{and_parts, cases_Bool, eq-eqb, true≢false}
use Rattle.std.proofs.lemmas.Bool.Decides.{nat_tests}
use Rattle.std.proofs.lemmas.List.{append-nil, drop-drop, drop_all, drop_more, length-append, nil_from_length, take-append-drop}
use Rattle.std.specs.List.{filter, flat_map, list_all, AllByRecursion}
use Rattle.go_sgf.specs.Record.{Property, Trees, none, tree, AreTrees, IsProperty, IsValue, TreeValue, is_inside, is_letter_byte, is_lower, is_upper_byte, plain, plain_property}
use Rattle.go_sgf.specs.Spelling.{Part, closing, value_part, text, text_of_parts, property_parts, node_parts, parts, tree_text, without_space, is_space, SpellsParts}
use Rattle.go_sgf.specs.inner.Reads.{IsBracketAt, ReadsTree}
use Rattle.go_sgf.specs.inner.Tidied.{Escaped, Inside, NeverEnds, Outside, Spot, StaysTo, rest_from, is_left_out_byte, open_after, spot_after, tidied_from, written}
use Rattle.go_sgf.proofs.Parts.{SpellsParts-split}
use Rattle.go_sgf.proofs.Scanning.{after_space_more, after_space_stop}
use Rattle.go_sgf.proofs.Written.{joined-append, tree_then}

-- ---- what a front of a text gives

-- From a text to a later one: this is written, and what follows the trees stays the same.
pub record Gives (p : Spot) (d : ℕ) (b : List ℕ) (q : Spot) (e : ℕ) (rest x : List ℕ) : Type 0 where
  pub text : tidied_from p d b ≡ x ++ tidied_from q e rest
  pub after : rest_from p d b ≡ rest_from q e rest

pub nothing_given : (p : Spot) (d : ℕ) (b : List ℕ) → Gives p d b p d b []
nothing_given p d b = record { text = refl; after = refl }

pub given_then : {p q r : Spot} {d e f : ℕ} {b mid rest : List ℕ} (x y : List ℕ) → Gives p d b q e mid x →
    Gives q e mid r f rest y → Gives p d b r f rest (x ++ y)
given_then {r} {f} {rest} x y g h = record {
  text = g.text ∙ ap (λ zs. x ++ zs) h.text ∙ sym (append_assoc x y (tidied_from r f rest));
  after = g.after ∙ h.after;
}

tidied_byte : (p : Spot) (d c : ℕ) (cs : List ℕ) → tidied_from p (suc d) (c ∷ cs) ≡ written p c
    ++ tidied_from (spot_after p c) (open_after p (suc d) c) cs
unfolding tidied_from
tidied_byte p d c cs = refl

after_byte : (p : Spot) (d c : ℕ) (cs : List ℕ) →
    rest_from p (suc d) (c ∷ cs) ≡ rest_from (spot_after p c) (open_after p (suc d) c) cs
unfolding rest_from
after_byte p d c cs = refl

given_byte : (p : Spot) (d c : ℕ) (cs : List ℕ) →
    Gives p (suc d) (c ∷ cs) (spot_after p c) (open_after p (suc d) c) cs (written p c)
given_byte p d c cs = record { text = tidied_byte p d c cs; after = after_byte p d c cs }

-- ---- no tree is some

pub tidied_closed : (b : List ℕ) → tidied_from Outside 0 b ≡ []
unfolding tidied_from
tidied_closed [] = refl
tidied_closed (c ∷ cs) = refl

pub after_closed : (b : List ℕ) → rest_from Outside 0 b ≡ b
unfolding rest_from
after_closed [] = refl
after_closed (c ∷ cs) = refl

pub tidied_end : (p : Spot) (d : ℕ) → tidied_from p d [] ≡ []
unfolding tidied_from
tidied_end p d = refl

pub after_end : (p : Spot) (d : ℕ) → rest_from p d [] ≡ []
unfolding rest_from
after_end p d = refl

-- ---- bytes outside of values

pub left_out_given : (d c : ℕ) (cs : List ℕ) → is_left_out_byte c ≡ true →
    Gives Outside (suc d) (c ∷ cs) Outside (suc d) cs []
left_out_given d c cs e =
    let bracket : (c == 91) ≡ false = grind (arith, nat_tests) in
    let opening' : (c == 40) ≡ false = grind (arith, nat_tests) in
    let closing' : (c == 41) ≡ false = grind (arith, nat_tests) in
    let g = given_byte Outside d c cs in
    rw (e, bracket, opening', closing') at g

pub other_given : (d c : ℕ) (cs : List ℕ) → is_left_out_byte c ≡ false → (c == 91) ≡ false → (c == 40) ≡ false →
    (c == 41) ≡ false →
    Gives Outside (suc d) (c ∷ cs) Outside (suc d) cs (c ∷ [])
other_given d c cs e bracket opening' closing' = let g = given_byte Outside d c cs in
    rw (e, bracket, opening', closing') at g

closing_given : (d : ℕ) (cs : List ℕ) → Gives Outside (suc d) (41 ∷ cs) Outside d cs (41 ∷ [])
closing_given d cs =
    let same : suc d - 1 ≡ d = omega arith in
    subst (λ (k : ℕ). Gives Outside (suc d) (41 ∷ cs) Outside k cs (41 ∷ [])) same (given_byte Outside d 41 cs)

space_given : (d : ℕ) (b : List ℕ) → Gives Outside (suc d) b Outside (suc d) (without_space b) []
space_given d [] = nothing_given Outside (suc d) []
space_given d (c ∷ cs) = elim (cases_Bool (is_space c)) [
  | inl e ↦
      let left_out : is_left_out_byte c ≡ true = rw e refl in
      rw (after_space_more c cs e) (given_then [] [] (left_out_given d c cs left_out) (space_given d cs))
  | inr e ↦ rw (after_space_stop c cs e) (nothing_given Outside (suc d) (c ∷ cs))
]

letter_given : (d c : ℕ) (cs : List ℕ) → is_letter_byte c ≡ true →
    Gives Outside (suc d) (c ∷ cs) Outside (suc d) cs (filter is_upper_byte (c ∷ []))
letter_given d c cs e = elim (cases_Bool (is_upper_byte c)) [
  | inl up ↦
      let left_out : is_left_out_byte c ≡ false = grind (arith, nat_tests) in
      let bracket : (c == 91) ≡ false = grind (arith, nat_tests) in
      let opening' : (c == 40) ≡ false = grind (arith, nat_tests) in
      let closing' : (c == 41) ≡ false = grind (arith, nat_tests) in
      rw up (other_given d c cs left_out bracket opening' closing')
  | inr up ↦
      let lower : is_lower c ≡ true = grind (arith, nat_tests) in
      let left_out : is_left_out_byte c ≡ true = grind (arith, nat_tests) in
      rw up (left_out_given d c cs left_out)
]

name_given : (d : ℕ) (n b : List ℕ) → list_all is_letter_byte n ≡ true →
    Gives Outside (suc d) (n ++ b) Outside (suc d) b (filter is_upper_byte n)
name_given d [] b h = nothing_given Outside (suc d) b
name_given d (c ∷ cs) b h =
    let both = and_parts (is_letter_byte c) (list_all is_letter_byte cs) h in
    let g = given_then (filter is_upper_byte (c ∷ [])) (filter is_upper_byte cs) (letter_given d c (cs ++ b) both.0)
    (name_given d cs b both.1) in
    subst (λ (xs : List ℕ). Gives Outside (suc d) (c ∷ (cs ++ b)) Outside (suc d) b xs) (sym (filter_first c cs)) g
  where
    filter_first : (c : ℕ) (cs : List ℕ) → filter is_upper_byte (c ∷ cs) ≡ filter is_upper_byte (c ∷ [])
        ++ filter is_upper_byte cs
    filter_first c cs = elim (cases_Bool (is_upper_byte c)) [
      | inl e ↦ rw e refl
      | inr e ↦ rw e refl
    ]

-- ---- bytes inside of a value

-- inside of a value, after a `\` or not
abbrev inside_spot : Bool → Spot
inside_spot e = if e then Escaped else Inside

inside_given : (d : ℕ) (e : Bool) (v b : List ℕ) → is_inside e v ≡ true →
    Gives (inside_spot e) (suc d) (v ++ b) Inside (suc d) b v
inside_given d true [] b h = cc
inside_given d false [] b h = nothing_given Inside (suc d) b
inside_given d true (c ∷ cs) b h =
    given_then (c ∷ []) cs (given_byte Escaped d c (cs ++ b)) (inside_given d false cs b h)
inside_given d false (c ∷ cs) b h =
    let both = and_parts (not (c == 93)) (is_inside (c == 92) cs) h in
    let other : (c == 93) ≡ false = grind (arith, nat_tests, both.0) in
    let first : Gives Inside (suc d) (c ∷ (cs ++ b)) (inside_spot (c == 92)) (suc d) (cs ++ b) (c ∷ []) =
    let g = given_byte Inside d c (cs ++ b) in rw other at g in
    given_then (c ∷ []) cs first (inside_given d (c == 92) cs b both.1)

-- from after a `[` to after the `]`
value_given : (d : ℕ) (v more : List ℕ) → IsValue v →
    Gives Inside (suc d) (v ++ (93 ∷ more)) Outside (suc d) more (v ++ (93 ∷ []))
value_given d v more h = given_then v (93 ∷ []) (inside_given d false v (93 ∷ more) h) (given_byte Inside d 93 more)

pub never_ends : (v : List ℕ) → IsValue v → NeverEnds v
never_ends v h d =
    let g = subst (λ (b : List ℕ). Gives Inside (suc d) b Inside (suc d) [] v) (append-nil v)
    (inside_given d false v [] h) in (
      g.text ∙ ap (λ xs. v ++ xs) (tidied_end Inside (suc d)) ∙ append-nil v,
      g.after ∙ after_end Inside (suc d),
    )

pub never_ends_escape : (v : List ℕ) → IsValue v → NeverEnds (v ++ (92 ∷ []))
never_ends_escape v h d =
    let g = given_then v (92 ∷ []) (inside_given d false v (92 ∷ []) h) (given_byte Inside d 92 []) in (
      g.text ∙ ap (λ xs. (v ++ (92 ∷ [])) ++ xs) (tidied_end Escaped (suc d)) ∙ append-nil (v ++ (92 ∷ [])),
      g.after ∙ after_end Escaped (suc d),
    )

-- ---- what stays as it stands

pub stays : (p : Spot) (d e : ℕ) (b rest prefix : List ℕ) → b ≡ prefix ++ rest → Gives p d b Outside e rest prefix →
    StaysTo p d b e rest
stays p d e b rest prefix whole g = record { prefix = prefix; whole = whole; text = g.text; after = g.after }

pub stays_on : {p : Spot} {d e f : ℕ} {b mid rest : List ℕ} → StaysTo p d b e mid → StaysTo Outside e mid f rest →
    StaysTo p d b f rest
stays_on {rest} s t = record {
  prefix = s.prefix ++ t.prefix;
  whole = s.whole ∙ ap (λ xs. s.prefix ++ xs) t.whole ∙ sym (append_assoc s.prefix t.prefix rest);
  text = s.text ∙ ap (λ xs. s.prefix ++ xs) t.text ∙ sym (append_assoc s.prefix t.prefix _);
  after = s.after ∙ t.after;
}

pub value_stays : (b v more : List ℕ) → b ≡ v ++ (93 ∷ more) → IsValue v → (d : ℕ) → d ≢ 0 → StaysTo Inside d b d more
value_stays b v more e h zero some = absurd (some refl)
value_stays b v more e h (suc d) some =
    subst (λ (xs : List ℕ). StaysTo Inside (suc d) xs (suc d) more) (sym e)
    (stays Inside (suc d) (suc d) (v ++ (93 ∷ more)) more (v ++ (93 ∷ [])) (sym (append_assoc v (93 ∷ []) more))
    (value_given d v more h))

pub all_stays : (b : List ℕ) → NeverEnds b → (d : ℕ) → d ≢ 0 → StaysTo Inside d b d []
all_stays b h zero some = absurd (some refl)
all_stays b h (suc d) some = record {
  prefix = b;
  whole = sym (append-nil b);
  text = (h d).0 ∙ sym (append-nil b) ∙ ap (λ xs. b ++ xs) (sym (tidied_end Outside (suc d)));
  after = (h d).1 ∙ sym (after_end Outside (suc d));
}

pub bracket_stays : (d c : ℕ) (more rest : List ℕ) → d ≢ 0 → c ≡ 91 → ((e : ℕ) → e ≢ 0 → StaysTo Inside e more e rest) →
    StaysTo Outside d (c ∷ more) d rest
bracket_stays zero c more rest some e s = absurd (some refl)
bracket_stays (suc d) c more rest some e s =
    let t = s (suc d) some in
    let g = given_byte Outside d 91 more in
    rw e (record {
      prefix = 91 ∷ t.prefix;
      whole = ap (λ xs. 91 ∷ xs) t.whole;
      text = g.text ∙ ap (λ xs. 91 ∷ xs) t.text;
      after = g.after ∙ t.after;
    })

-- a byte that is written
pub byte_stays : (d c : ℕ) (more : List ℕ) → d ≢ 0 → is_left_out_byte c ≡ false → c ≢ 91 →
    StaysTo Outside d (c ∷ more) (open_after Outside d c) more
byte_stays zero c more some left_out bracket = absurd (some refl)
byte_stays (suc d) c more some left_out bracket =
    let b : (c == 91) ≡ false = grind (arith, nat_tests) in
    let g = given_byte Outside d c more in
    stays Outside (suc d) (open_after Outside (suc d) c) (c ∷ more) more (c ∷ []) refl (rw (left_out, b) at g)

pub other_stays : (d c : ℕ) (more : List ℕ) → d ≢ 0 → is_left_out_byte c ≡ false → c ≢ 91 → c ≢ 40 → c ≢ 41 →
    StaysTo Outside d (c ∷ more) d more
other_stays zero c more some left_out bracket opening' closing' = absurd (some refl)
other_stays (suc d) c more some left_out bracket opening' closing' =
    let b : (c == 91) ≡ false = grind (arith, nat_tests) in
    let o : (c == 40) ≡ false = grind (arith, nat_tests) in
    let k : (c == 41) ≡ false = grind (arith, nat_tests) in
    stays Outside (suc d) (suc d) (c ∷ more) more (c ∷ []) refl (other_given d c more left_out b o k)

pub semicolon_stays : (d c : ℕ) (more : List ℕ) → d ≢ 0 → c ≡ 59 → StaysTo Outside d (c ∷ more) d more
semicolon_stays zero c more some e = absurd (some refl)
semicolon_stays (suc d) c more some e =
    rw e (stays Outside (suc d) (suc d) (59 ∷ more) more (59 ∷ []) refl (given_byte Outside d 59 more))

pub upper_stays : (d c : ℕ) (more : List ℕ) → d ≢ 0 → is_upper_byte c ≡ true → StaysTo Outside d (c ∷ more) d more
upper_stays d c more some e =
    let left_out : is_left_out_byte c ≡ false = grind (arith, nat_tests) in
    let b : (c == 91) ≡ false = grind (arith, nat_tests) in
    let o : (c == 40) ≡ false = grind (arith, nat_tests) in
    let k : (c == 41) ≡ false = grind (arith, nat_tests) in
    let bracket : c ≢ 91 = λ is. true≢false (sym (eq-eqb c 91 is) ∙ b) in
    let opening' : c ≢ 40 = λ is. true≢false (sym (eq-eqb c 40 is) ∙ o) in
    let closing' : c ≢ 41 = λ is. true≢false (sym (eq-eqb c 41 is) ∙ k) in
    other_stays d c more some left_out bracket opening' closing'

-- ---- what stays up to a place

-- a byte more
pub stays_a_byte : (d n : ℕ) (b : List ℕ) → n < length b → StaysTo Outside d b d (drop n b) →
    ((more : List ℕ) → StaysTo Outside d (get_or b n 0 ∷ more) d more) → StaysTo Outside d b d (drop (n + 1) b)
stays_a_byte d n b lt before byte =
    stays_on before
    (subst (λ (xs : List ℕ). StaysTo Outside d xs d (drop (n + 1) b)) (sym (drop_more b n 0 lt))
    (byte (drop (n + 1) b)))

-- a value up to its `]`
pub value_stays_at : (b : List ℕ) (n : ℕ) → IsValue (take n b) → IsBracketAt b n → (d : ℕ) → d ≢ 0 →
    StaysTo Inside d b d (drop (n + 1) b)
value_stays_at b n h at =
    value_stays b (take n b) (drop (n + 1) b)
    (sym (take-append-drop n b) ∙ ap (λ xs. take n b ++ xs)
    (drop_more b n 0 at.0 ∙ ap (λ c. c ∷ drop (n + 1) b) at.1)) h

-- what follows a `[`
pub stays_from_bracket : (d n : ℕ) (b rest : List ℕ) → d ≢ 0 → n < length b → get_or b n 0 ≡ 91 →
    StaysTo Outside d b d (drop n b) → ((e : ℕ) → e ≢ 0 → StaysTo Inside e (drop (n + 1) b) e rest) →
    StaysTo Outside d b d rest
stays_from_bracket d n b rest some lt is before inside =
    stays_on before
    (subst (λ (xs : List ℕ). StaysTo Outside d xs d rest) (sym (drop_more b n 0 lt))
    (bracket_stays d (get_or b n 0) (drop (n + 1) b) rest some is inside))

-- a value more, with its brackets
pub stays_a_value : (d n k : ℕ) (b : List ℕ) → d ≢ 0 → n < length b → get_or b n 0 ≡ 91 →
    StaysTo Outside d b d (drop n b) → IsValue (take k (drop (n + 1) b)) → IsBracketAt (drop (n + 1) b) k →
    StaysTo Outside d b d (drop (n + k + 2) b)
stays_a_value d n k b some lt is before h at =
    let far : n + 1 + (k + 1) ≡ n + k + 2 = omega arith in
    let same : drop (k + 1) (drop (n + 1) b) ≡ drop (n + k + 2) b =
    drop-drop (k + 1) (n + 1) b ∙ ap (λ m. drop m b) far in
    stays_from_bracket d n b (drop (n + k + 2) b) some lt is before
    (λ e more. subst (λ (xs : List ℕ). StaysTo Inside e (drop (n + 1) b) e xs) same
    (value_stays_at (drop (n + 1) b) k h at e more))

-- all bytes
pub stays_to_end : {d n : ℕ} {b : List ℕ} → length b ≤ n → StaysTo Outside d b d (drop n b) → StaysTo Outside d b d []
stays_to_end {d} {n} {b} le s = subst (λ (xs : List ℕ). StaysTo Outside d b d xs) (drop_all n b le) s

-- what no shorter text follows is the text itself
pub stays_whole : {p : Spot} {d e : ℕ} {b rest : List ℕ} → StaysTo p d b e rest → length b ≤ length rest → rest ≡ b
stays_whole {rest} s le =
    let none : length s.prefix ≡ 0 = omega (arith, le, ap length s.whole, length-append s.prefix rest) in
    sym (s.whole ∙ ap (λ xs. xs ++ rest) (nil_from_length s.prefix none))

-- ---- what is left out

pub left_out_tidied : (c : ℕ) (cs : List ℕ) → is_left_out_byte c ≡ true → (d : ℕ) → d ≢ 0 →
    tidied_from Outside d (c ∷ cs) ≡ tidied_from Outside d cs
left_out_tidied c cs e zero some = absurd (some refl)
left_out_tidied c cs e (suc d) some = (left_out_given d c cs e).text

pub left_out_after : (c : ℕ) (cs : List ℕ) → is_left_out_byte c ≡ true → (d : ℕ) → d ≢ 0 →
    rest_from Outside d (c ∷ cs) ≡ rest_from Outside d cs
left_out_after c cs e zero some = absurd (some refl)
left_out_after c cs e (suc d) some = (left_out_given d c cs e).after

-- ---- parts

-- a part after white space
spaced : (d e : ℕ) (b prefix more x : List ℕ) → without_space b ≡ prefix ++ more →
    Gives Outside (suc d) (prefix ++ more) Outside e more x → Gives Outside (suc d) b Outside e more x
spaced d e b prefix more x same g =
    given_then [] x (subst (λ (xs : List ℕ). Gives Outside (suc d) b Outside (suc d) xs []) same (space_given d b)) g

ended : (d : ℕ) (b rest : List ℕ) → without_space b ≡ rest → Gives Outside (suc d) b Outside (suc d) rest []
ended d b rest same = subst (λ (xs : List ℕ). Gives Outside (suc d) b Outside (suc d) xs []) same (space_given d b)

values_given : (d : ℕ) (vs : List (List ℕ)) (b rest : List ℕ) → AllByRecursion IsValue vs →
    SpellsParts b (map value_part vs) rest →
    Gives Outside (suc d) b Outside (suc d) rest (text_of_parts (map value_part vs))
values_given d [] b rest h s = ended d b rest s
values_given d (v ∷ vs) b rest h s =
    let whole : text (value_part v) ++ s.0 ≡ 91 ∷ (v ++ (93 ∷ s.0)) =
    ap (λ xs. 91 ∷ xs) (append_assoc v (93 ∷ []) s.0) in
    let one : Gives Outside (suc d) (text (value_part v) ++ s.0) Outside (suc d) s.0 (text (value_part v)) =
    subst (λ (xs : List ℕ). Gives Outside (suc d) xs Outside (suc d) s.0 (text (value_part v))) (sym whole)
    (given_then (91 ∷ []) (v ++ (93 ∷ [])) (given_byte Outside d 91 (v ++ (93 ∷ s.0))) (value_given d v s.0 h.0)) in
    given_then (text (value_part v)) (text_of_parts (map value_part vs))
    (spaced d (suc d) b (text (value_part v)) s.0 (text (value_part v)) s.1 one)
    (values_given d vs s.0 rest h.1 s.2)

property_given : (d : ℕ) (p : Property) (b rest : List ℕ) → IsProperty p → SpellsParts b (property_parts p) rest →
    Gives Outside (suc d) b Outside (suc d) rest (text_of_parts (property_parts (plain_property p)))
property_given d p b rest h s =
    given_then (filter is_upper_byte p.name) (text_of_parts (map value_part p.values))
    (spaced d (suc d) b p.name s.0 (filter is_upper_byte p.name) s.1 (name_given d p.name s.0 h.named.0))
    (values_given d p.values s.0 rest h.inside s.2)

properties_given : (d : ℕ) (ps : List Property) (b rest : List ℕ) → AllByRecursion IsProperty ps →
    SpellsParts b (flat_map property_parts ps) rest →
    Gives Outside (suc d) b Outside (suc d) rest (text_of_parts (flat_map property_parts (map plain_property ps)))
properties_given d [] b rest h s = ended d b rest s
properties_given d (p ∷ ps) b rest h s =
    let split = SpellsParts-split (property_parts p) (flat_map property_parts ps) b rest s in
    let later = flat_map property_parts (map plain_property ps) in
    subst (λ (xs : List ℕ). Gives Outside (suc d) b Outside (suc d) rest xs)
    (sym (joined-append (property_parts (plain_property p)) later))
    (given_then (text_of_parts (property_parts (plain_property p))) (text_of_parts later)
    (property_given d p b split.0 h.0 split.1)
    (properties_given d ps split.0 rest h.1 split.2))

node_given : (d : ℕ) (ps : List Property) (b rest : List ℕ) → AllByRecursion IsProperty ps →
    SpellsParts b (node_parts ps) rest →
    Gives Outside (suc d) b Outside (suc d) rest (text_of_parts (node_parts (map plain_property ps)))
node_given d ps b rest h s =
    given_then (59 ∷ []) (text_of_parts (flat_map property_parts (map plain_property ps)))
    (spaced d (suc d) b (59 ∷ []) s.0 (59 ∷ []) s.1 (given_byte Outside d 59 s.0))
    (properties_given d ps s.0 rest h s.2)

nodes_given : (d : ℕ) (ns : List (List Property)) (b rest : List ℕ) → AllByRecursion (AllByRecursion IsProperty) ns →
    SpellsParts b (flat_map node_parts ns) rest →
    Gives Outside (suc d) b Outside (suc d) rest (text_of_parts (flat_map node_parts (map (map plain_property) ns)))
nodes_given d [] b rest h s = ended d b rest s
nodes_given d (n ∷ ns) b rest h s =
    let split = SpellsParts-split (node_parts n) (flat_map node_parts ns) b rest s in
    let later = flat_map node_parts (map (map plain_property) ns) in
    subst (λ (xs : List ℕ). Gives Outside (suc d) b Outside (suc d) rest xs)
    (sym (joined-append (node_parts (map plain_property n)) later))
    (given_then (text_of_parts (node_parts (map plain_property n))) (text_of_parts later)
    (node_given d n b split.0 h.0 split.1)
    (nodes_given d ns split.0 rest h.1 split.2))

-- ---- trees

-- the nodes, the children and the `)` of a tree
body_given : (d : ℕ) (ns : List (List Property)) (children later : List Part) (b rest x : List ℕ) →
    AllByRecursion (AllByRecursion IsProperty) ns →
    ((m r : List ℕ) → SpellsParts m children r → Gives Outside (suc d) m Outside (suc d) r x) →
    SpellsParts b (flat_map node_parts ns ++ (children ++ (closing ∷ later))) rest →
    (mid : List ℕ) × Gives Outside (suc d) b Outside d mid
    (text_of_parts (flat_map node_parts (map (map plain_property) ns)) ++ (x ++ (41 ∷ [])))
    × SpellsParts mid later rest
body_given d ns children later b rest x h inside s =
    let nodes = SpellsParts-split (flat_map node_parts ns) (children ++ (closing ∷ later)) b rest s in
    let inner = SpellsParts-split children (closing ∷ later) nodes.0 rest nodes.2 in
    let last = inner.2 in (
      last.0,
      given_then (text_of_parts (flat_map node_parts (map (map plain_property) ns))) (x ++ (41 ∷ []))
          (nodes_given d ns b nodes.0 h nodes.1)
          (given_then x (41 ∷ []) (inside nodes.0 inner.0 inner.1)
          (spaced d d inner.0 (41 ∷ []) last.0 (41 ∷ []) last.1 (closing_given d last.0))),
      last.2,
    )

tree_text-is : (nodes : List (List Property)) (children : Trees) →
    tree_text nodes children ≡ 40 ∷
    (text_of_parts (flat_map node_parts (map (map plain_property) nodes))
    ++ (text_of_parts (parts (plain children)) ++ (41 ∷ [])))
tree_text-is nodes children =
    let prefix = flat_map node_parts (map (map plain_property) nodes) in
    ap (λ xs. 40 ∷ xs)
    (joined-append prefix (parts (plain children) ++ (closing ∷ []))
    ∙ ap (λ xs. text_of_parts prefix ++ xs) (joined-append (parts (plain children)) (closing ∷ [])))

trees_given : (c : Trees) (d : ℕ) (b rest : List ℕ) → AreTrees c → SpellsParts b (parts c) rest →
    Gives Outside (suc d) b Outside (suc d) rest (text_of_parts (parts (plain c)))
trees_given none d b rest h s = ended d b rest s
trees_given (tree nodes children later) d b rest h s =
    let inside = text_of_parts (parts (plain children)) in
    let after = text_of_parts (parts (plain later)) in
    let body = body_given (suc d) nodes (parts children) (parts later) s.0 rest inside h.1
    (λ m r. trees_given children (suc d) m r h.2) s.2 in
    let own = text_of_parts (flat_map node_parts (map (map plain_property) nodes)) ++ (inside ++ (41 ∷ [])) in
    subst (λ (xs : List ℕ). Gives Outside (suc d) b Outside (suc d) rest xs)
    (sym (tree_then nodes children (parts (plain later)) ∙ ap (λ ys. ys ++ after) (tree_text-is nodes children)))
    (given_then (40 ∷ own) after
    (given_then (40 ∷ []) own (spaced d (suc (suc d)) b (40 ∷ []) s.0 (40 ∷ []) s.1 (given_byte Outside d 40 s.0))
    body.1)
    (trees_given later d body.0 rest h.3 body.2))

-- a tree from after its `(` on
pub tree_given : (b rest : List ℕ) (t : TreeValue) → ReadsTree 1 b t rest →
    (tree_text t.0 t.1 ≡ 40 ∷ tidied_from Outside 1 b) × (rest ≡ without_space (rest_from Outside 1 b))
tree_given b rest t r =
    let inside = text_of_parts (parts (plain t.1)) in
    let own = text_of_parts (flat_map node_parts (map (map plain_property) t.0)) ++ (inside ++ (41 ∷ [])) in
    let body = body_given 0 t.0 (parts t.1) [] b rest inside r.nodes (λ m q. trees_given t.1 0 m q r.children)
    r.spelling in (
      tree_text-is t.0 t.1 ∙ ap (λ xs. 40 ∷ xs)
          (sym (body.1.text ∙ ap (λ xs. own ++ xs) (tidied_closed body.0) ∙ append-nil own)),
      sym (ap without_space (body.1.after ∙ after_closed body.0) ∙ body.2),
    )
