-- The game trees of a source, one after another.
use Rattle.std.proofs.Common.{◌≡◌, ◌≢◌, ◌≤◌, ◌<◌, ◌+◌, ◌-◌, ◌==◌, inl, inr, ℕ, suc, List, [], ◌∷◌, ◌++◌, true, false, Result, Err, refl, sym, ap, subst, ◌∙◌, length, take, drop, append_assoc, length-append, eqb-true, arith}
use Rattle.std.proofs.Math.Seq.{drop-append_seam, take-append_seam}
use Rattle.std.proofs.lemmas.Bool.{cases_Bool, cases_lt, and_parts}
use Rattle.std.proofs.lemmas.Bool.Decides.{nat_tests}
use Rattle.std.proofs.lemmas.List.{drop-drop, drop_all, length-drop, take-append-drop}
use Rattle.std.specs.List.{flat_map}
use Rattle.go_sgf.specs.GameTrees.{BeginsAt, IsTreeAt, span_text, StopsInFirst, IsRefusalFrom, RefusedAlike, IsNextTree, AreNextTrees, AreWalked, SpelledAreWalked}
use Rattle.go_sgf.specs.Laws.{SpellsTree}
use Rattle.go_sgf.specs.Record.{Property, Trees, TreeValue, none, tree, AreTrees, IsFit, depth}
use Rattle.go_sgf.specs.Refusals.{IsReadUpTo, StopsAt, EndsAt, StandsNoLonger, StandsTooDeep}
use Rattle.go_sgf.specs.Spelling.{Part, closing, text, without_space, is_space, is_first, is_tree_first, tree_in, node_parts, parts, Spells, SpellsParts}
use Rattle.go_sgf.specs.Stands.{opened}
use Rattle.go_sgf.specs.inner.Outcome.{outcome, left_of, error_at, Meets}
use Rattle.go_sgf.specs.inner.Reads.{ReadsToEnd, begins_space}
use Rattle.go_sgf.specs.declared.error.ReadError.{ReadError}
use Rattle.go_sgf.specs.declared.error.ReadError.TheVariants.{Memory, End, Stray, Deep}
use Rattle.go_sgf.specs.declared.error.SgfError.TheVariants as error
use Rattle.go_sgf.specs.declared.game_trees.TreeSpan.{TreeSpan}
use Rattle.go_sgf.specs.declared.limits.TheConstants.{MAX_DEPTH}
use Rattle.go_sgf.proofs.Prefixes.{tree_closed}
use Rattle.go_sgf.proofs.Parts.{SpellsParts-same, SpellsParts-split, after_space-again, after_space-same, no_space_after, no_space_first, rest_le}
use Rattle.go_sgf.proofs.Scanning.{after_space_more, after_space_stop, from_tree_here, from_tree_more}
use Rattle.go_sgf.proofs.Standing.{FaultIs, fault_is}
use Rattle.go_sgf.proofs.Stops.{WhyIn, begins_no_space, from_tree_begins, length-from_first_tree, read_up_to, tree_begins, two_ways}

-- ---- what stands before a text

-- the text up to where it is left after white space
pub space_before : (b : List ℕ) → (prefix : List ℕ) × (b ≡ prefix ++ without_space b) × (without_space prefix ≡ [])
space_before [] = ([], refl, refl)
space_before (c ∷ cs) = elim (cases_Bool (is_space c)) [
  | inl e ↦
      let later = space_before cs in
      (c ∷ later.0, rw (after_space_more c cs e) (ap (λ xs. c ∷ xs) later.1), after_space_more c later.0 e ∙ later.2)
  | inr e ↦ ([], sym (after_space_stop c cs e), refl)
]

space_then : (prefix b : List ℕ) → without_space prefix ≡ [] → begins_space b ≡ false → without_space (prefix ++ b) ≡ b
space_then [] b e f = after_space-same b f
space_then (c ∷ cs) b e f = elim (cases_Bool (is_space c)) [
  | inl w ↦ after_space_more c (cs ++ b) w ∙ space_then cs b (sym (after_space_more c cs w) ∙ e) f
  | inr w ↦ let no : c ∷ cs ≡ [] = sym (after_space_stop c cs w) ∙ e in cc
]

prefix_no_space : (xs ys : List ℕ) → begins_space (xs ++ ys) ≡ false → begins_space xs ≡ false
prefix_no_space [] ys e = refl
prefix_no_space (c ∷ cs) ys e = e

-- what spells parts up to a rest is a front of the text, which spells them alone
pub spelled_prefix : (ps : List Part) (b r : List ℕ) → SpellsParts b ps r → (prefix : List ℕ) × (b ≡ prefix ++ r)
    × SpellsParts prefix ps []
spelled_prefix [] b r s =
    let before = space_before b in
    (before.0, before.1 ∙ ap (λ xs. before.0 ++ xs) s, before.2)
spelled_prefix (p ∷ ps) b r s =
    let before = space_before b in
    let later = spelled_prefix ps s.0 r s.2 in
    let own : List ℕ = text p ++ later.0 in
    let whole : without_space b ≡ own ++ r =
    s.1 ∙ ap (λ xs. text p ++ xs) later.1 ∙ sym (append_assoc (text p) later.0 r) in
    let trimmed : begins_space own ≡ false = prefix_no_space own r (rw (← whole) (no_space_first b)) in (
      before.0 ++ own,
      before.1 ∙ ap (λ xs. before.0 ++ xs) whole ∙ sym (append_assoc before.0 own r),
      (later.0, space_then before.0 own before.2 trimmed, later.2),
    )

-- the text up to its first tree
pub tree_prefix : (b : List ℕ) → (prefix : List ℕ) × (b ≡ prefix ++ tree_in b)
tree_prefix [] = ([], refl)
tree_prefix (c ∷ cs) = elim (cases_Bool (is_tree_first (c ∷ cs))) [
  | inl e ↦ ([], sym (from_tree_here c cs e))
  | inr e ↦
      let later = tree_prefix cs in
      (c ∷ later.0, rw (from_tree_more c cs e) (ap (λ xs. c ∷ xs) later.1))
]

space_no_tree : (c : ℕ) (cs : List ℕ) → is_space c ≡ true → is_tree_first (c ∷ cs) ≡ false
space_no_tree c cs e = let other : (c == 40) ≡ false = grind (arith, nat_tests) in rw other refl

-- a tree that begins after white space alone is the first
pub tree_after_space : (b : List ℕ) → is_tree_first (without_space b) ≡ true → tree_in b ≡ without_space b
tree_after_space [] e = refl
tree_after_space (c ∷ cs) e = elim (cases_Bool (is_space c)) [
  | inl w ↦
      let same : without_space (c ∷ cs) ≡ without_space cs = after_space_more c cs w in
      from_tree_more c cs (space_no_tree c cs w) ∙ tree_after_space cs (rw same at e) ∙ sym same
  | inr w ↦
      let same : without_space (c ∷ cs) ≡ c ∷ cs = after_space_stop c cs w in
      from_tree_here c cs (rw same at e) ∙ sym same
]

-- ---- where a tree begins

pub length-tree_in : (source : List ℕ) (from : ℕ) → length (tree_in (drop from source)) ≤ length source
length-tree_in source from =
    let sized : length (drop from source) ≡ length source - from = length-drop from source in
    omega (arith, length-from_first_tree (drop from source))

-- a tree begins from there on within the source alone
some_left : (source : List ℕ) (from : ℕ) → length (tree_in (drop from source)) ≢ 0 → from ≤ length source
some_left source from some = elim (cases_lt (length source) from) [
  | inl past ↦ absurd (some (ap (λ xs. length (tree_in xs)) (drop_all from source (omega arith))))
  | inr within ↦ within
]

-- by how many bytes are left there
pub begins_by : (source : List ℕ) (from begin : ℕ) → begin + length (tree_in (drop from source)) ≡ length source →
    length (tree_in (drop from source)) ≢ 0 → BeginsAt source from begin
begins_by source from begin left some =
    let within : from ≤ length source = some_left source from some in
    let prefix = tree_prefix (drop from source) in
    let before : ℕ = length prefix.0 in
    let whole : length (drop from source) ≡ before + length (tree_in (drop from source)) =
    ap length prefix.1 ∙ length-append prefix.0 (tree_in (drop from source)) in
    let sized : length (drop from source) ≡ length source - from = length-drop from source in
    let is : from + before ≡ begin = omega arith in
    let rest : drop before (drop from source) ≡ tree_in (drop from source) =
    ap (drop before) prefix.1 ∙ drop-append_seam prefix.0 (tree_in (drop from source)) in
    let first : tree_in (drop from source) ≡ drop begin source =
    sym rest ∙ drop-drop before from source ∙ ap (λ n. drop n source) is in
    record { later = omega arith; within = omega arith; first = first }

-- the same, of a text that begins there
pub begins_here : (source text found : List ℕ) (from : ℕ) → text ≡ drop from source → found ≡ tree_in text →
    length found ≢ 0 →
    BeginsAt source from (length source - length found)
begins_here source text found from e f some =
    let is : found ≡ tree_in (drop from source) = f ∙ ap tree_in e in
    let same : length found ≡ length (tree_in (drop from source)) = ap length is in
    let less : length (tree_in (drop from source)) ≤ length source = length-tree_in source from in
    begins_by source from (length source - length found) (omega arith) (λ none. some (same ∙ none))

-- what stands there
pub begun : (source : List ℕ) (from begin : ℕ) → BeginsAt source from begin → is_tree_first (drop begin source) ≡ true
begun source from begin b =
    let some : drop begin source ≢ [] = λ e. let h : length source - begin ≡ 0 = sym (length-drop begin source)
    ∙ ap length e in let w = b.within in omega arith in
    rw (← b.first) (from_tree_begins (drop from source) (λ e. some (sym b.first ∙ e)))

opened_text : (b : List ℕ) → is_tree_first b ≡ true → b ≡ 40 ∷ drop 1 b
opened_text [] e = cc
opened_text (c ∷ cs) e =
    let is : c ≡ 40 = eqb-true c 40 (and_parts (c == 40) (is_first 59 (without_space cs)) e).0 in
    ap (λ x. x ∷ cs) is

pub text_from : (source : List ℕ) (from begin : ℕ) → BeginsAt source from begin →
    drop begin source ≡ 40 ∷ drop (begin + 1) source
text_from source from begin b = opened_text (drop begin source) (begun source from begin b)
    ∙ ap (λ xs. 40 ∷ xs) (drop-drop 1 begin source)

-- ---- a tree that stands

-- a tree's text alone
spells_alone : (t : List ℕ) (nodes : List (List Property)) (children : Trees) → IsFit (tree nodes children none) →
    SpellsTree t nodes children →
    Spells t (tree nodes children none)
spells_alone t nodes children fit s =
    let inside : List ℕ = s.0 ++ (41 ∷ []) in
    let all : SpellsParts inside (flat_map node_parts nodes ++ (parts children ++ (closing ∷ []))) [] =
    tree_closed nodes children [] s.0 [] [] s.2 refl in
    let begins : is_tree_first (40 ∷ inside) ≡ true = tree_begins nodes _ inside [] fit.trees.0 all in
    let P : List ℕ → Type 0 = λ xs. Spells xs (tree nodes children none) in
    subst P (sym s.1) (record {
      fit = fit;
      rest = [];
      spelling =
          let Q : List ℕ → Type 0 = λ xs. SpellsParts xs (parts (tree nodes children none)) [] in
          subst Q (sym (from_tree_here 40 inside begins)) (inside, refl, all);
      ended = refl;
    })

-- it is read from its `(` to its `)`
pub stands_there : (source : List ℕ) (span : TreeSpan) (nodes : List (List Property)) (children : Trees)
    (inside after : List ℕ) →
    span.begin < length source → drop span.begin source ≡ 40 ∷ inside → span.end + length after ≡ length source →
    IsFit (tree nodes children none) → SpellsParts inside (flat_map node_parts nodes ++ parts children) (41 ∷ after) →
    IsTreeAt source span nodes children × (drop span.end source ≡ after)
stands_there source span nodes children inside after within opens ends fit s =
    let prefix = spelled_prefix (flat_map node_parts nodes ++ parts children) inside (41 ∷ after) s in
    let own : List ℕ = 40 ∷ (prefix.0 ++ (41 ∷ [])) in
    let whole : drop span.begin source ≡ own ++ after =
    opens ∙ ap (λ xs. 40 ∷ xs) (prefix.1 ∙ sym (append_assoc prefix.0 (41 ∷ []) after)) in
    let sized : length source - span.begin ≡ length own + length after =
    sym (length-drop span.begin source) ∙ ap length whole ∙ length-append own after in
    let long : length own ≡ suc (length prefix.0 + 1) = ap suc (length-append prefix.0 (41 ∷ [])) in
    let size : span.end - span.begin ≡ length own = omega arith in
    let is : span_text source span ≡ own =
    ap (λ n. take n (drop span.begin source)) size ∙ ap (take (length own)) whole ∙ take-append_seam own after in
    let bracketed : SpellsTree (span_text source span) nodes children = (prefix.0, is, prefix.2) in
    let past : span.begin + length own ≡ span.end = omega arith in (
      record {
        ordered = omega arith;
        within = omega arith;
        alone = spells_alone (span_text source span) nodes children fit bracketed;
        text = bracketed;
      },
      sym (sym (drop-append_seam own after) ∙ ap (drop (length own)) (sym whole)
          ∙ drop-drop (length own) span.begin source ∙ ap (λ n. drop n source) past),
    )

-- it is read up to what follows it
pub read_there : (source : List ℕ) (from begin : ℕ) (inside after : List ℕ) (t : TreeValue) →
    BeginsAt source from begin → inside ≡ drop (begin + 1) source →
    ReadsToEnd 1 inside t after →
    (length after ≤ length source)
    × IsTreeAt source (record { begin = begin; end = length source - length after }) t.0 t.1
read_there source from begin inside after t b e r =
    let own : List Part = flat_map node_parts t.0 ++ parts t.1 in
    let opens : drop begin source ≡ 40 ∷ inside = text_from source from begin b ∙ ap (λ xs. 40 ∷ xs) (sym e) in
    let less : length (41 ∷ after) ≤ length inside = rest_le own inside (41 ∷ after) r.closed in
    let sized : length source - begin ≡ suc (length inside) = sym (length-drop begin source) ∙ ap length opens in
    let within : length after ≤ length source = omega arith in
    let fit : IsFit (tree t.0 t.1 none) =
    record {
      some = λ e. cc;
      trees = (r.tree.some, r.tree.nodes, r.tree.children, tt);
      nesting = let h =
          r.tree.nesting in omega arith;
    } in
    let span : TreeSpan = record { begin = begin; end = length source - length after } in
    (within, (stands_there source span t.0 t.1 inside after b.within opens (omega arith) fit r.closed).0)

-- ---- a tree that stops

pub stops_in_first : (source : List ℕ) (from begin : ℕ) (inside : List ℕ) (f : ReadError) (place : ℕ) →
    BeginsAt source from begin →
    drop begin source ≡ 40 ∷ inside → outcome MAX_DEPTH opened 1 inside ≡ Err f → place + left_of f ≡ length source →
    StopsInFirst source from place (WhyIn f)
stops_in_first source from begin inside f place b opens e placed =
    let i : FaultIs MAX_DEPTH opened 1 inside f =
    fault_is MAX_DEPTH inside opened 1 f (λ h. cc) (omega arith, omega arith) e in
    let is : tree_in (drop from source) ≡ 40 ∷ inside = b.first ∙ opens in
    let B : List ℕ → Type 0 = λ xs. is_tree_first xs ≡ true in
    let begins : is_tree_first (40 ∷ inside) ≡ true = subst B opens (begun source from begin b) in
    let first : SpellsParts (tree_in (drop from source)) (parts none) (40 ∷ inside) = ap without_space is in
    let P : List ℕ → Type 0 = λ xs. IsReadUpTo xs (suc i.at) (WhyIn f) in
    let sized : length source - begin ≡ suc (length inside) = sym (length-drop begin source) ∙ ap length opens in
    record {
      spells_none = λ c s.
          two_ways none c (tree_in (drop from source)) (40 ∷ inside) s.rest inside f tt (omega arith) s.fit.trees
          s.fit.nesting
          first s.spelling s.ended begins refl e;
      begin = begin;
      begins = b;
      count = suc i.at;
      reading = subst P (sym opens) (read_up_to inside f i);
      placed = let h = i.left in let w = b.within in omega arith;
      past = let h = i.left in let w = b.within in omega arith;
    }

-- no more bytes are left at a fault than the source has
left_in_source : (source : List ℕ) (begin : ℕ) (inside : List ℕ) (f : ReadError) → drop begin source ≡ 40 ∷ inside →
    outcome MAX_DEPTH opened 1 inside ≡ Err f → left_of f ≤ length source
left_in_source source begin inside f opens e =
    let i : FaultIs MAX_DEPTH opened 1 inside f =
    fault_is MAX_DEPTH inside opened 1 f (λ h. cc) (omega arith, omega arith) e in
    let h = i.left in
    let sized : length source - begin ≡ suc (length inside) = sym (length-drop begin source) ∙ ap length opens in
    omega arith

module _ {X : Type 0} (later : X → Result (List ℕ) ReadError) (source : List ℕ) (from begin : ℕ) (inside : List ℕ) where
  pub left_there : (f : ReadError) → drop begin source ≡ 40 ∷ inside →
      Meets (Err f) (outcome MAX_DEPTH opened 1 inside) later → left_of f ≤ length source
  left_there Memory opens m = omega arith
  left_there End opens m = omega arith
  left_there (Stray n) opens m = left_in_source source begin inside (Stray n) opens m
  left_there (Deep n) opens m = left_in_source source begin inside (Deep n) opens m

  pub refused_there : (f : ReadError) → f ≢ Memory → BeginsAt source from begin → drop begin source ≡ 40 ∷ inside →
      Meets (Err f) (outcome MAX_DEPTH opened 1 inside) later → IsRefusalFrom source from (error_at (length source) f)
  refused_there Memory ne b opens m = absurd (ne refl)
  refused_there End ne b opens m =
      (refl, stops_in_first source from begin inside End (length source) b opens m (omega arith))
  refused_there (Stray n) ne b opens m =
      let left : n ≤ length source = left_in_source source begin inside (Stray n) opens m in
      stops_in_first source from begin inside (Stray n) (length source - n) b opens m (omega arith)
  refused_there (Deep n) ne b opens m =
      let left : n ≤ length source = left_in_source source begin inside (Deep n) opens m in
      stops_in_first source from begin inside (Deep n) (length source - n) b opens m (omega arith)

-- the same refusal of the text from there on
stops_alike : (source : List ℕ) (from place : ℕ) (Reason : List ℕ → ℕ → Type 0) →
    StopsInFirst source from place Reason →
    (at : ℕ) × StopsAt (drop from source) at Reason × (place ≡ from + at)
stops_alike source from place Reason s =
    let b = s.begins in
    let w = b.within in
    let l = b.later in
    let at : ℕ = (s.begin - from) + s.count in
    let begins : is_tree_first (drop s.begin source) ≡ true = begun source from s.begin b in (
      at,
      record {
        spells_none = s.spells_none;
        before = none;
        text = drop s.begin source;
        after = record {
          whole = tt;
          nesting = omega arith;
          spelling = ap without_space b.first ∙ begins_no_space (drop s.begin source) begins;
          begins = begins;
        };
        count = s.count;
        reading = s.reading;
        placed =
            let sized : length (drop s.begin source) ≡ length source - s.begin = length-drop s.begin source in
            let rest : length (drop from source) ≡ length source - from = length-drop from source in
            omega arith;
      },
      let h = s.placed in omega arith,
    )

pub refused_alike : RefusedAlike
refused_alike source from (error.EndInside place) r =
    let s = stops_alike source from place EndsAt r.1 in
    let end : s.0 ≡ length (drop from source) =
    let rest : length (drop from source) ≡ length source - from = length-drop from source in
    let e = r.0 in let h = s.2 in omega arith in
    (error.EndInside s.0, (end, s.1), ap error.EndInside s.2)
refused_alike source from (error.Unexpected place) r =
    let s = stops_alike source from place StandsNoLonger r in (error.Unexpected s.0, s.1, ap error.Unexpected s.2)
refused_alike source from (error.TooDeep place) r =
    let s = stops_alike source from place StandsTooDeep r in (error.TooDeep s.0, s.1, ap error.TooDeep s.2)
refused_alike source from error.NoTree r = absurd r
refused_alike source from error.Memory r = absurd r
refused_alike source from error.TooLong r = absurd r

-- ---- a walk over what a text spells

-- the first of the trees that a text spells from its first tree on, and the text after it
first_stands : (source : List ℕ) (from : ℕ) (inside : List ℕ) (nodes : List (List Property)) (children later : Trees)
    (rest : List ℕ) →
    tree_in (drop from source) ≡ 40 ∷ inside → AreTrees (tree nodes children later) →
    depth (tree nodes children later) ≤ MAX_DEPTH →
    SpellsParts inside (flat_map node_parts nodes ++ (parts children ++ (closing ∷ parts later))) rest →
    (span : TreeSpan) × IsNextTree source from span nodes children
    × SpellsParts (drop span.end source) (parts later) rest
first_stands source from inside nodes children later rest is fit deep s =
    let P : List Part → Type 0 = λ ps. SpellsParts inside ps rest in
    let own : List Part = flat_map node_parts nodes ++ parts children in
    let split = SpellsParts-split own (closing ∷ parts later) inside rest
    (subst P (sym (append_assoc (flat_map node_parts nodes) (parts children) (closing ∷ parts later))) s) in
    let after : List ℕ = split.2.0 in
    let closes : split.0 ≡ 41 ∷ after = sym (after_space-same split.0 (no_space_after own inside split.0 split.1))
    ∙ split.2.1 in
    let Q : List ℕ → Type 0 = λ xs. SpellsParts inside own xs in
    let to_end : SpellsParts inside own (41 ∷ after) = subst Q closes split.1 in
    let prefix = spelled_prefix own inside (41 ∷ after) to_end in
    let sizes : length inside ≡ length prefix.0 + suc (length after) = ap length prefix.1
    ∙ length-append prefix.0 (41 ∷ after) in
    let before = tree_prefix (drop from source) in
    let whole : length (drop from source) ≡ length before.0 + suc (length inside) =
    ap length before.1 ∙ length-append before.0 (tree_in (drop from source))
    ∙ ap (λ xs. length before.0 + length xs) is in
    let sized : length (drop from source) ≡ length source - from = length-drop from source in
    let left : length (tree_in (drop from source)) ≡ suc (length inside) = ap length is in
    let span : TreeSpan = record { begin = length source - suc (length inside); end = length source - length after } in
    let begins : BeginsAt source from span.begin =
    begins_by source from span.begin (omega arith) (λ none. omega arith) in
    let fits : IsFit (tree nodes children none) =
    record { some = λ e. cc; trees = (fit.0, fit.1, fit.2, tt); nesting = omega arith } in
    let there = stands_there source span nodes children inside after begins.within (sym begins.first ∙ is)
    (omega arith) fits to_end in
    let R : List ℕ → Type 0 = λ xs. SpellsParts xs (parts later) rest in
    (span, record { begins = begins; stands = there.0 }, subst R (sym there.1) split.2.2)

trees_follow : (c : Trees) (source : List ℕ) (from : ℕ) (rest : List ℕ) → AreTrees c → depth c ≤ MAX_DEPTH →
    SpellsParts (drop from source) (parts c) rest → is_tree_first rest ≡ false → AreNextTrees source from c
trees_follow none source from rest fit deep s ended = rw s ended
trees_follow (tree nodes children later) source from rest fit deep s ended =
    let begins : is_tree_first (without_space (drop from source)) ≡ true =
    rw s.1 (tree_begins nodes _ s.0 rest fit.0 s.2) in
    let first = first_stands source from s.0 nodes children later rest
    (tree_after_space (drop from source) begins ∙ s.1) fit deep s.2 in
    (begins, first.0, first.1, trees_follow later source first.0.end rest fit.3 (omega arith) first.2 ended)

spelled_walked : (b : List ℕ) (c : Trees) → Spells b c → AreWalked b c
spelled_walked b none s = s.fit.some refl
spelled_walked b (tree nodes children later) s =
    let from_start = s.spelling in
    let begins : is_tree_first (40 ∷ from_start.0) ≡ true =
    tree_begins nodes _ from_start.0 s.rest s.fit.trees.0 from_start.2 in
    let some : tree_in b ≢ [] = λ e. let no : 40 ∷ from_start.0 ≡ [] = sym from_start.1 ∙ ap without_space e in cc in
    let is : tree_in b ≡ 40 ∷ from_start.0 = sym (begins_no_space (tree_in b) (from_tree_begins b some))
    ∙ from_start.1 in
    let first = first_stands b 0 from_start.0 nodes children later s.rest is s.fit.trees s.fit.nesting from_start.2 in (
      first.0,
      first.1,
      trees_follow later b first.0.end s.rest s.fit.trees.3 (let h = s.fit.nesting in omega arith)
          first.2 s.ended,
    )

-- ---- what a walk meets is spelled

-- these trees, and after them no tree, white space aside
record GoesOn (b : List ℕ) (c : Trees) : Type 0 where
  trees : AreTrees c
  nesting : depth c ≤ MAX_DEPTH
  rest : List ℕ
  spelling : SpellsParts b (parts c) rest
  ended : is_tree_first rest ≡ false

-- one tree more before them
one_before : (source : List ℕ) (from : ℕ) (span : TreeSpan) (nodes : List (List Property)) (children later : Trees) →
    IsNextTree source from span nodes children →
    GoesOn (drop span.end source) later → GoesOn (tree_in (drop from source)) (tree nodes children later)
one_before source from span nodes children later next g =
    let t = next.stands.text in
    let fit = next.stands.alone.fit in
    let after : List ℕ = drop span.end source in
    let ordered = next.stands.ordered in
    let past : span.begin + (span.end - span.begin) ≡ span.end = omega arith in
    let whole : drop span.begin source ≡ span_text source span ++ after =
    sym (take-append-drop (span.end - span.begin) (drop span.begin source))
    ∙ ap (λ xs. span_text source span ++ xs)
    (drop-drop (span.end - span.begin) span.begin source ∙ ap (λ n. drop n source) past) in
    let is : tree_in (drop from source) ≡ 40 ∷ (t.0 ++ (41 ∷ after)) =
    next.begins.first ∙ whole ∙ ap (λ xs. xs ++ after) t.1 ∙ ap (λ xs. 40 ∷ xs) (append_assoc t.0 (41 ∷ []) after) in
    record {
      trees = (fit.trees.0, fit.trees.1, fit.trees.2, g.trees);
      nesting = let h = fit.nesting in let k = g.nesting in omega arith;
      rest = g.rest;
      spelling = (
        t.0 ++ (41 ∷ after),
        ap without_space is,
        tree_closed nodes children (parts later) t.0 after g.rest t.2 g.spelling,
      );
      ended = g.ended;
    }

goes_on : (c : Trees) (source : List ℕ) (from : ℕ) → AreNextTrees source from c → GoesOn (drop from source) c
goes_on none source from h = record
    { trees = tt; nesting = omega arith; rest = without_space (drop from source); spelling = refl; ended = h }
goes_on (tree nodes children later) source from h =
    let g : GoesOn (tree_in (drop from source)) (tree nodes children later) =
    one_before source from h.1 nodes children later h.2 (goes_on later source h.1.end h.3) in
    let same : without_space (tree_in (drop from source)) ≡ without_space (drop from source) =
    ap without_space (tree_after_space (drop from source) h.0) ∙ after_space-again (drop from source) in
    record {
      trees = g.trees;
      nesting = g.nesting;
      rest = g.rest;
      spelling = SpellsParts-same (parts (tree nodes children later)) (tree_in (drop from source)) (drop from source)
          g.rest same g.spelling;
      ended = g.ended;
    }

walked_spelled : (b : List ℕ) (c : Trees) → AreWalked b c → Spells b c
walked_spelled b none h = absurd h
walked_spelled b (tree nodes children later) h =
    let g : GoesOn (tree_in b) (tree nodes children later) =
    one_before b 0 h.0 nodes children later h.1 (goes_on later b h.0.end h.2) in
    record {
      fit = record { some = λ e. cc; trees = g.trees; nesting = g.nesting };
      rest = g.rest;
      spelling = g.spelling;
      ended = g.ended;
    }

pub spelled_are_walked : SpelledAreWalked
spelled_are_walked b c = (spelled_walked b c, walked_spelled b c)
