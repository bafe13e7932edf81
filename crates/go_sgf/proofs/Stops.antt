-- A fault in a source, and where the reading of it ends.
use Rattle.std.proofs.Common.{◌≡◌, ◌≢◌, ◌≤◌, ◌<◌, ◌+◌, ◌-◌, ◌==◌, inl, inr, ℕ, zero, suc, List, [], ◌∷◌, ◌++◌, true, false, None, Result, Ok, Err, refl, sym, ap, subst, ◌∙◌, length, take, eqb-true, arith}
use Rattle.std.proofs.lemmas.Bool.{cases_Bool, and_parts}
use Rattle.std.specs.List.{flat_map, AllByRecursion}
use Rattle.go_sgf.specs.Record.{Property, Trees, none, tree, IsProperty, AreTrees, depth, TreeValue}
use Rattle.go_sgf.specs.Spelling.{Part, opening, closing, is_first, node_parts, parts, without_space, is_tree_first, tree_in, Spells, SpellsParts}
use Rattle.go_sgf.specs.Stands.{stands, run, opened, IsAtDepth}
use Rattle.go_sgf.specs.inner.Outcome.{outcome, left_of, error_at, Meets}
use Rattle.go_sgf.specs.inner.Reads.{ReadsTree}
use Rattle.go_sgf.specs.Refusals.{StopsAt, IsReadUpTo, EndsAt, StandsNoLonger, StandsTooDeep, IsRefusal}
use Rattle.go_sgf.specs.View.{chain}
use Rattle.go_sgf.specs.declared.error.ReadError.{ReadError}
use Rattle.go_sgf.specs.declared.error.ReadError.TheVariants.{Memory, End, Stray, Deep}
use Rattle.go_sgf.specs.declared.limits.TheConstants.{MAX_DEPTH}
use Rattle.go_sgf.proofs.Growing.{chain-push, depth-push, parts-push}
use Rattle.go_sgf.proofs.Outcomes.{tree_outcome}
use Rattle.go_sgf.proofs.Parts.{SpellsParts-append, SpellsParts-split, SpellsParts-same, after_space-again, rest_le}
use Rattle.go_sgf.proofs.Passing.{push_some}
use Rattle.go_sgf.proofs.Scanning.{from_tree_here, from_tree_more}
use Rattle.go_sgf.proofs.Standing.{FaultIs, Why, fault_is}

-- ---- from the first tree on

pub from_tree_begins : (b : List ℕ) → tree_in b ≢ [] → is_tree_first (tree_in b) ≡ true
from_tree_begins [] some = absurd (some refl)
from_tree_begins (c ∷ cs) some = elim (cases_Bool (is_tree_first (c ∷ cs))) [
  | inl e ↦ rw (from_tree_here c cs e) e
  | inr e ↦ rw (from_tree_more c cs e) (from_tree_begins cs (λ h. some (from_tree_more c cs e ∙ h)))
]

pub length-from_first_tree : (b : List ℕ) → length (tree_in b) ≤ length b
length-from_first_tree [] = omega arith
length-from_first_tree (c ∷ cs) = elim (cases_Bool (is_tree_first (c ∷ cs))) [
  | inl e ↦ rw (from_tree_here c cs e) (omega arith)
  | inr e ↦ let h = length-from_first_tree cs in rw (from_tree_more c cs e) (omega arith)
]

-- a text that begins a tree begins with no white space
pub begins_no_space : (b : List ℕ) → is_tree_first b ≡ true → without_space b ≡ b
begins_no_space [] e = refl
begins_no_space (c ∷ cs) e =
    let is : c ≡ 40 = eqb-true c 40 (and_parts (c == 40) (is_first 59 (without_space cs)) e).0 in
    rw is refl

-- ---- two readings of one text

-- a first tree, and what follows it
first_tree : (nodes : List (List Property)) (children later : Trees) (b r : List ℕ) → nodes ≢ [] →
    AllByRecursion (AllByRecursion IsProperty) nodes →
    AreTrees children → suc (depth children) ≤ MAX_DEPTH →
    SpellsParts b (flat_map node_parts nodes ++ (parts children ++ (closing ∷ parts later))) r →
    (after : List ℕ) × (outcome MAX_DEPTH opened 1 b ≡ Ok after) × SpellsParts after (parts later) r
first_tree nodes children later b r some fit below deep s =
    let heads = SpellsParts-split (flat_map node_parts nodes) (parts children ++ (closing ∷ parts later)) b r s in
    let inner = SpellsParts-split (parts children) (closing ∷ parts later) heads.0 r heads.2 in
    let close = inner.2 in
    let after : List ℕ = without_space close.0 in
    let whole : SpellsParts b (flat_map node_parts nodes ++ (parts children ++ (closing ∷ []))) after =
    SpellsParts-append (flat_map node_parts nodes) (parts children ++ (closing ∷ [])) b heads.0 after heads.1
    (SpellsParts-append (parts children) (closing ∷ []) heads.0 inner.0 after inner.1 (close.0, close.1, refl)) in (
      after,
      tree_outcome MAX_DEPTH 1 (omega arith, omega arith) nodes children b after some fit below (omega arith) whole,
      SpellsParts-same (parts later) close.0 after r (sym (after_space-again close.0)) close.2,
    )

pub tree_begins : (nodes : List (List Property)) (ps : List Part) (b r : List ℕ) → nodes ≢ [] →
    SpellsParts b (flat_map node_parts nodes ++ ps) r →
    is_tree_first (40 ∷ b) ≡ true
tree_begins [] ps b r some s = absurd (some refl)
tree_begins (n ∷ ns) ps b r some s = rw s.1 refl

-- trees and then a fault, and trees and then no tree, aren't both read from one text
pub two_ways : (before c : Trees) (b at rest inside : List ℕ) (f : ReadError) → AreTrees before → depth before ≤ MAX_DEPTH →
    AreTrees c → depth c ≤ MAX_DEPTH →
    SpellsParts b (parts before) at → SpellsParts b (parts c) rest → is_tree_first rest ≡ false →
    is_tree_first at ≡ true → at ≡ 40 ∷ inside →
    outcome MAX_DEPTH opened 1 inside ≡ Err f → ⊥
two_ways none none b at rest inside f w n w' n' s s' ended begins is e =
    let same : is_tree_first at ≡ is_tree_first rest = ap is_tree_first (sym s ∙ s') in
    let h : true ≡ false = sym begins ∙ same ∙ ended in cc
two_ways none (tree nodes children later) b at rest inside f w n w' n' s s' ended begins is e =
    let first = first_tree nodes children later s'.0 rest w'.0 w'.1 w'.2 (omega arith) s'.2 in
    let same : 40 ∷ inside ≡ 40 ∷ s'.0 = sym is ∙ sym s ∙ s'.1 in
    let inner : inside ≡ s'.0 = cc in
    let h : Ok first.0 ≡ Err f = sym first.1 ∙ ap (outcome MAX_DEPTH opened 1) (sym inner) ∙ e in cc
two_ways (tree nodes children later) none b at rest inside f w n w' n' s s' ended begins is e =
    let same : 40 ∷ s.0 ≡ rest = sym s.1 ∙ s' in
    let h : true ≡ false = sym (tree_begins nodes _ s.0 at w.0 s.2) ∙ ap is_tree_first same ∙ ended in cc
two_ways (tree nodes children later) (tree nodes' children' later') b at rest inside f w n w' n' s s' ended begins is
    e =
    let first = first_tree nodes children later s.0 at w.0 w.1 w.2 (omega arith) s.2 in
    let first' = first_tree nodes' children' later' s'.0 rest w'.0 w'.1 w'.2 (omega arith) s'.2 in
    let same : 40 ∷ s.0 ≡ 40 ∷ s'.0 = sym s.1 ∙ s'.1 in
    let inner : s.0 ≡ s'.0 = cc in
    let both : Ok first.0 ≡ Ok first'.0 = sym first.1 ∙ ap (outcome MAX_DEPTH opened 1) inner ∙ first'.1 in
    let after : first.0 ≡ first'.0 = cc in
    let P : List ℕ → Type 0 = λ xs. SpellsParts xs (parts later') rest in
    two_ways later later' first.0 at rest inside f w.3 (omega arith) w'.3 (omega arith) first.2
    (subst P (sym after) first'.2) ended begins is e

-- ---- a collection read so far

pub record TreesSoFar (source : List ℕ) (ts : List TreeValue) (rest : List ℕ) : Type 0 where
  pub some : ts ≡ [] → is_tree_first rest ≡ true
  pub fit : AreTrees (chain ts)
  pub nesting : depth (chain ts) ≤ MAX_DEPTH
  pub spelling : SpellsParts (tree_in source) (parts (chain ts)) rest

pub trees_first : (source rest : List ℕ) → rest ≡ tree_in source → rest ≢ [] → TreesSoFar source [] rest
trees_first source rest e some =
    let begins : is_tree_first (tree_in source) ≡ true = from_tree_begins source (λ h. some (e ∙ h)) in
    record {
      some = λ _. rw e begins;
      fit = tt;
      nesting = omega arith;
      spelling = begins_no_space (tree_in source) begins ∙ sym e;
    }

pub trees_more : (source : List ℕ) (ts ts' : List TreeValue) (rest inside : List ℕ) (t : TreeValue) (more : List ℕ) →
    TreesSoFar source ts rest →
    ts' ≡ ts ++ t ∷ [] → rest ≡ 40 ∷ inside → ReadsTree 1 inside t more → TreesSoFar source ts' more
trees_more source ts ts' rest inside t more far e f r =
    let Q : List TreeValue → Type 0 = λ xs. TreesSoFar source xs more in
    let P : List Part → Type 0 = λ ps. SpellsParts (tree_in source) ps more in
    subst Q (sym e) (record {
      some = λ empty. absurd (push_some ts t empty);
      fit = chain-push ts t far.fit r.some r.nodes r.children;
      nesting = depth-push ts t MAX_DEPTH far.nesting (omega (arith, r.nesting));
      spelling =
          let tail : List Part = opening ∷ (flat_map node_parts t.0 ++ (parts t.1 ++ (closing ∷ []))) in
          subst P (sym (parts-push ts t))
          (SpellsParts-append (parts (chain ts)) tail (tree_in source) rest more far.spelling
          (inside, ap without_space f, r.spelling));
    })

chain_some : (ts : List TreeValue) → ts ≢ [] → chain ts ≢ none
chain_some [] some e = some refl
chain_some (t ∷ ts) some e = cc

pub trees_whole : (source : List ℕ) (ts : List TreeValue) (rest : List ℕ) → TreesSoFar source ts rest →
    is_tree_first rest ≡ false → Spells source (chain ts)
trees_whole source ts rest far ended = record {
  fit = record { some = chain_some ts (λ empty. let h = far.some empty in cc); trees = far.fit; nesting = far.nesting };
  rest = rest;
  spelling = far.spelling;
  ended = ended;
}

-- ---- a refusal

shallow_text : (inside : List ℕ) (at : ℕ) →
    ((k : ℕ) → k ≤ at → IsAtDepth (suc MAX_DEPTH) (run opened 1 (take k inside)) → ⊥) →
    (k : ℕ) → k ≤ suc at → IsAtDepth (suc MAX_DEPTH) (stands (take k (40 ∷ inside))) → ⊥
shallow_text inside at h zero less deep = deep
shallow_text inside at h (suc k) less deep = h k (omega arith) deep

no_longer : (inside : List ℕ) (at : ℕ) → ((k : ℕ) → at < k → run opened 1 (take k inside) ≡ None) →
    (k : ℕ) → suc at < k → stands (take k (40 ∷ inside)) ≡ None
no_longer inside at h zero less = absurd (omega arith)
no_longer inside at h (suc k) less = h k (omega arith)

-- why it stops, in a text
abbrev pub WhyIn : ReadError → List ℕ → ℕ → Type 0
WhyIn Memory text at = ⊥
WhyIn End text at = EndsAt text at
WhyIn (Stray n) text at = StandsNoLonger text at
WhyIn (Deep n) text at = StandsTooDeep text at

why_in : (inside : List ℕ) (f : ReadError) (at : ℕ) → Why MAX_DEPTH f opened 1 inside at → WhyIn f (40 ∷ inside) (suc at)
why_in inside Memory at w = w
why_in inside End at w = ap suc w
why_in inside (Stray n) at w = (omega arith, no_longer inside at w.1)
why_in inside (Deep n) at w =
    let P : ℕ → Type 0 = λ k. IsAtDepth (suc MAX_DEPTH) (stands (take k (40 ∷ inside))) in
    let same : suc (at + 1) ≡ suc at + 1 = omega arith in
    (omega arith, subst P same w.1)

-- how far the text of a tree with a fault is read
pub read_up_to : (inside : List ℕ) (f : ReadError) (i : FaultIs MAX_DEPTH opened 1 inside f) →
    IsReadUpTo (40 ∷ inside) (suc i.at) (WhyIn f)
read_up_to inside f i = record {
  unfinished = i.unfinished;
  shallow = shallow_text inside i.at i.shallow;
  stops = why_in inside f i.at i.stops;
}

stops_at : (source : List ℕ) (ts : List TreeValue) (inside : List ℕ) (f : ReadError) (place : ℕ) →
    TreesSoFar source ts (40 ∷ inside) →
    is_tree_first (40 ∷ inside) ≡ true → outcome MAX_DEPTH opened 1 inside ≡ Err f → place + left_of f ≡ length source →
    StopsAt source place (WhyIn f)
stops_at source ts inside f place far begins e placed =
    let i : FaultIs MAX_DEPTH opened 1 inside f =
    fault_is MAX_DEPTH inside opened 1 f (λ h. cc) (omega arith, omega arith) e in
    record {
      spells_none = λ c s.
          two_ways (chain ts) c (tree_in source) (40 ∷ inside) s.rest inside f far.fit far.nesting s.fit.trees
          s.fit.nesting
          far.spelling s.spelling s.ended begins refl e;
      before = chain ts;
      text = 40 ∷ inside;
      after = record { whole = far.fit; nesting = far.nesting; spelling = far.spelling; begins = begins };
      count = suc i.at;
      reading = read_up_to inside f i;
      placed = let h = i.left in omega arith;
    }

-- no more bytes are left at a fault than the source has
left_in : (source : List ℕ) (ts : List TreeValue) (rest inside : List ℕ) (f : ReadError) → TreesSoFar source ts rest →
    rest ≡ 40 ∷ inside →
    outcome MAX_DEPTH opened 1 inside ≡ Err f → left_of f ≤ length source
left_in source ts rest inside f far is e =
    let i : FaultIs MAX_DEPTH opened 1 inside f =
    fault_is MAX_DEPTH inside opened 1 f (λ h. cc) (omega arith, omega arith) e in
    let h = i.left in
    let whole : length rest ≤ length (tree_in source) = rest_le (parts (chain ts)) (tree_in source) rest far.spelling in
    omega (arith, length-from_first_tree source, ap length is)

module _ {X : Type 0} (later : X → Result (List ℕ) ReadError) (source : List ℕ) (ts : List TreeValue)
    (rest inside : List ℕ) where
  pub left_by : (f : ReadError) → TreesSoFar source ts rest → rest ≡ 40 ∷ inside →
      Meets (Err f) (outcome MAX_DEPTH opened 1 inside) later →
      left_of f ≤ length source
  left_by Memory far is m = omega arith
  left_by End far is m = omega arith
  left_by (Stray n) far is m = left_in source ts rest inside (Stray n) far is m
  left_by (Deep n) far is m = left_in source ts rest inside (Deep n) far is m

  stops_here : (f : ReadError) (place : ℕ) → TreesSoFar source ts rest → is_tree_first rest ≡ true → rest ≡ 40 ∷ inside →
      outcome MAX_DEPTH opened 1 inside ≡ Err f → place + left_of f ≡ length source → StopsAt source place (WhyIn f)
  stops_here f place far begins is e placed =
      let P : List ℕ → Type 0 = λ xs. TreesSoFar source ts xs in
      let Q : List ℕ → Type 0 = λ xs. is_tree_first xs ≡ true in
      stops_at source ts inside f place (subst P is far) (subst Q is begins) e placed

  pub refused_by : (f : ReadError) → TreesSoFar source ts rest → is_tree_first rest ≡ true → rest ≡ 40 ∷ inside →
      Meets (Err f) (outcome MAX_DEPTH opened 1 inside) later → IsRefusal source (error_at (length source) f)
  refused_by Memory far begins is m = tt
  refused_by End far begins is m = (refl, stops_here End (length source) far begins is m (omega arith))
  refused_by (Stray n) far begins is m =
      let left : n ≤ length source = left_in source ts rest inside (Stray n) far is m in
      stops_here (Stray n) (length source - n) far begins is m (omega arith)
  refused_by (Deep n) far begins is m =
      let left : n ≤ length source = left_in source ts rest inside (Deep n) far is m in
      stops_here (Deep n) (length source - n) far begins is m (omega arith)
