-- How what is written of a source goes on, from tree to tree.
use Rattle.std.proofs.Common.{◌≡◌, ◌≢◌, ◌≤◌, ℕ, List, [], ◌∷◌, ◌++◌, true, false, refl, sym, ap, subst, ◌∙◌, append_assoc, arith}
use Rattle.std.proofs.lemmas.List.{append-nil}
use Rattle.std.specs.List.{flat_map}
use Rattle.go_sgf.specs.Record.{Property, Trees, none, tree, AreTrees, depth}
use Rattle.go_sgf.specs.Spelling.{Part, closing, node_parts, parts, tree_text, canonical, without_space, is_tree_first, tree_in, Spells, SpellsParts}
use Rattle.go_sgf.specs.inner.Reads.{ReadsTree, begins_space}
use Rattle.go_sgf.specs.inner.Tidied.{Outside, rest_from, tidied_from}
use Rattle.go_sgf.specs.declared.limits.TheConstants.{MAX_DEPTH}
use Rattle.go_sgf.proofs.Parts.{SpellsParts-split, after_space-same, no_space_after, no_space_first}
use Rattle.go_sgf.proofs.Passed.{tree_given}
use Rattle.go_sgf.proofs.Stops.{from_tree_begins, tree_begins, begins_no_space}

-- a first tree, and the parts that follow it
first_split : (nodes : List (List Property)) (children later : Trees) (ps : List Part) (b end : List ℕ) →
    SpellsParts b ((flat_map node_parts nodes ++ (parts children ++ (closing ∷ parts later))) ++ ps) end →
    (mid : List ℕ) × SpellsParts b (flat_map node_parts nodes ++ (parts children ++ (closing ∷ []))) mid
    × SpellsParts mid (parts later ++ ps) end
first_split nodes children later ps b end s =
    let whole : (flat_map node_parts nodes ++ (parts children ++ (closing ∷ parts later))) ++ ps
    ≡ (flat_map node_parts nodes ++ (parts children ++ (closing ∷ []))) ++ (parts later ++ ps) = simp append_assoc in
    SpellsParts-split (flat_map node_parts nodes ++ (parts children ++ (closing ∷ []))) (parts later ++ ps) b end
    (subst (λ (qs : List Part). SpellsParts b qs end) whole s)

-- ---- the trees that are left

pub record TreesLeft (c : Trees) (written rest : List ℕ) : Type 0 where
  pub later : Trees
  pub fit : AreTrees later
  pub nesting : depth later ≤ MAX_DEPTH
  pub trimmed : begins_space rest ≡ false
  pub end : List ℕ
  pub spelling : SpellsParts rest (parts later) end
  pub ended : is_tree_first end ≡ false
  pub text : canonical c ≡ written ++ canonical later

pub trimmed_first : (source : List ℕ) → begins_space (tree_in source) ≡ false
trimmed_first source = trimmed_text (tree_in source) (from_tree_begins source)
  where
    trimmed_text : (b : List ℕ) → (b ≢ [] → is_tree_first b ≡ true) → begins_space b ≡ false
    trimmed_text [] h = refl
    trimmed_text (c ∷ cs) h =
        let same : without_space (c ∷ cs) ≡ c ∷ cs = begins_no_space (c ∷ cs) (h (λ e. (cc))) in
        subst (λ (xs : List ℕ). begins_space xs ≡ false) same (no_space_first (c ∷ cs))

-- at first all of them are left
pub none_written : (source rest : List ℕ) → rest ≡ tree_in source → (c : Trees) → Spells source c → TreesLeft c [] rest
none_written source rest e c s =
    subst (λ (xs : List ℕ). TreesLeft c [] xs) (sym e) (record {
      later = c;
      fit = s.fit.trees;
      nesting = s.fit.nesting;
      trimmed = trimmed_first source;
      end = s.rest;
      spelling = s.spelling;
      ended = s.ended;
      text = refl;
    })

tree_more : (later c : Trees) (written rest inside new left end : List ℕ) → AreTrees later → depth later ≤ MAX_DEPTH →
    SpellsParts rest (parts later) end →
    is_tree_first end ≡ false → canonical c ≡ written ++ canonical later → is_tree_first rest ≡ true →
    rest ≡ 40 ∷ inside →
    new ≡ tidied_from Outside 1 inside → left ≡ without_space (rest_from Outside 1 inside) →
    TreesLeft c (written ++ ((40 ∷ new) ++ (10 ∷ []))) left
tree_more none c written rest inside new left end fit deep s ended text begins e w l =
    let same : rest ≡ end = e ∙ sym (ap without_space e) ∙ s in
    let h : true ≡ false = sym begins ∙ ap is_tree_first same ∙ ended in cc
tree_more (tree nodes children later) c written rest inside new left end fit deep s ended text begins e w l =
    let same : 40 ∷ s.0 ≡ 40 ∷ inside = sym s.1 ∙ ap without_space e in
    let inner : s.0 ≡ inside = cc in
    let all : List Part = flat_map node_parts nodes ++ (parts children ++ (closing ∷ parts later)) in
    let split = first_split nodes children later [] s.0 end
    (subst (λ (qs : List Part). SpellsParts s.0 qs end) (sym (append-nil all)) s.2) in
    let read : ReadsTree 1 inside (nodes, children) split.0 = record {
      some = fit.0;
      nodes = fit.1;
      children = fit.2;
      nesting = omega arith;
      spelling = subst (λ (xs : List ℕ).
          SpellsParts xs (flat_map node_parts nodes ++ (parts children ++ (closing ∷ []))) split.0) inner split.1;
    } in
    let given = tree_given inside split.0 (nodes, children) read in
    let at : split.0 ≡ left = given.1 ∙ sym l in
    let one : tree_text nodes children ++ (10 ∷ canonical later) ≡ ((40 ∷ new) ++ (10 ∷ [])) ++ canonical later =
    ap (λ ys. ys ++ (10 ∷ canonical later)) (given.0 ∙ ap (λ ys. 40 ∷ ys) (sym w))
    ∙ sym (append_assoc (40 ∷ new) (10 ∷ []) (canonical later)) in
    record {
      later = later;
      fit = fit.3;
      nesting = omega arith;
      trimmed = subst (λ (xs : List ℕ). begins_space xs ≡ false) at
          (no_space_after (flat_map node_parts nodes ++ (parts children ++ (closing ∷ []))) s.0 split.0 split.1);
      end = end;
      spelling =
          subst (λ (xs : List ℕ). SpellsParts xs (parts later) end) at
          (subst (λ (qs : List Part). SpellsParts split.0 qs end) (append-nil (parts later)) split.2);
      ended = ended;
      text = text ∙ ap (λ ys. written ++ ys) one
          ∙ sym (append_assoc written ((40 ∷ new) ++ (10 ∷ [])) (canonical later));
    }

-- one tree more was written, and LF
pub one_written : (c : Trees) (written rest inside new left : List ℕ) → TreesLeft c written rest →
    is_tree_first rest ≡ true → rest ≡ 40 ∷ inside →
    new ≡ tidied_from Outside 1 inside → left ≡ without_space (rest_from Outside 1 inside) →
    TreesLeft c (written ++ ((40 ∷ new) ++ (10 ∷ []))) left
one_written c written rest inside new left t begins e w l =
    tree_more t.later c written rest inside new left t.end t.fit t.nesting t.spelling t.ended t.text begins e w l

no_tree : (later : Trees) (rest end : List ℕ) → AreTrees later → begins_space rest ≡ false →
    SpellsParts rest (parts later) end → is_tree_first rest ≡ false →
    later ≡ none
no_tree none rest end fit trimmed s stop = refl
no_tree (tree nodes children later) rest end fit trimmed s stop =
    let same : rest ≡ 40 ∷ s.0 = sym (after_space-same rest trimmed) ∙ s.1 in
    let h : true ≡ false = sym (tree_begins nodes _ s.0 end fit.0 s.2) ∙ ap is_tree_first (sym same) ∙ stop in cc

-- no tree comes, and all of them were written
pub all_written : (c : Trees) (written rest : List ℕ) → TreesLeft c written rest → is_tree_first rest ≡ false →
    written ≡ canonical c
all_written c written rest l stop =
    sym (l.text ∙ ap (λ (x : Trees). written ++ canonical x)
    (no_tree l.later rest l.end l.fit l.trimmed l.spelling stop) ∙ append-nil written)
