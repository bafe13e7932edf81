-- How a tree grows, child by child.
use Rattle.std.proofs.Common.{◌≡◌, ◌≤◌, ◌<◌, ◌+◌, ◌-◌, ◌==◌, ◌≢◌, ℕ, zero, suc, List, [], ◌∷◌, ◌++◌, true, false, Option, Some, Err, refl, sym, ap, subst, ◌∙◌, length, append_assoc, eq-eqb, arith}
use Rattle.std.proofs.lemmas.Bool.Decides.{nat_tests}
use Rattle.std.proofs.lemmas.List.{append-nil}
use Rattle.std.specs.List.{flat_map, AllByRecursion}
use Rattle.go_sgf.specs.Record.{Property, TreeValue, IsProperty, AreTrees, depth}
use Rattle.go_sgf.specs.Spelling.{Part, opening, closing, node_parts, parts, without_space, is_first, SpellsParts}
use Rattle.go_sgf.specs.Stands.{StateAt, opened, closed}
use Rattle.go_sgf.specs.inner.Outcome.{outcome, outcome_after, IsWithin, here}
use Rattle.go_sgf.specs.inner.Reads.{ReadsNodes, ReadsToEnd, ReadsTree}
use Rattle.go_sgf.specs.View.{chain, nodes_and_children, tree_of, trees_of}
use Rattle.go_sgf.specs.declared.record.Tree.{Tree}
use Rattle.go_sgf.specs.declared.record.Tree.TheFolds.{fold-roll-Tree, fold_out-Tree}
use Rattle.go_sgf.specs.declared.record.Tree.TheOpen.{Tree-F}
use Rattle.go_sgf.specs.declared.record.Tree.TheViews.{roll-Tree, out-Tree}
use Rattle.go_sgf.specs.declared.error.ReadError.TheVariants.{Deep}
use Rattle.go_sgf.specs.declared.limits.TheConstants.{MAX_DEPTH}
use Rattle.go_sgf.proofs.Machine as machine
use Rattle.go_sgf.proofs.Parts.{SpellsParts-append, no_space_after, rest_le}

-- ---- one more tree

pub chain-push : (ts : List TreeValue) (t : TreeValue) → AreTrees (chain ts) → t.0 ≢ [] →
    AllByRecursion (AllByRecursion IsProperty) t.0 → AreTrees t.1 →
    AreTrees (chain (ts ++ t ∷ []))
chain-push [] t h some fit children = (some, fit, children, tt)
chain-push (x ∷ ts) t h some fit children = (h.0, h.1, h.2, chain-push ts t h.3 some fit children)

pub parts-push : (ts : List TreeValue) (t : TreeValue) →
    parts (chain (ts ++ t ∷ [])) ≡ parts (chain ts)
    ++ (opening ∷ (flat_map node_parts t.0 ++ (parts t.1 ++ (closing ∷ []))))
parts-push [] t = refl
parts-push (x ∷ ts) t =
    let tail : List Part = opening ∷ (flat_map node_parts t.0 ++ (parts t.1 ++ (closing ∷ []))) in
    let inner : parts x.1 ++ (closing ∷ parts (chain (ts ++ t ∷ []))) ≡ (parts x.1 ++ (closing ∷ parts (chain ts)))
    ++ tail =
    ap (λ ps. parts x.1 ++ (closing ∷ ps)) (parts-push ts t)
    ∙ sym (append_assoc (parts x.1) (closing ∷ parts (chain ts)) tail) in
    ap (λ ps. opening ∷ (flat_map node_parts x.0 ++ ps)) inner
    ∙ ap (λ ps. opening ∷ ps) (sym (append_assoc (flat_map node_parts x.0) (parts x.1 ++ (closing ∷ parts (chain ts)))
    tail))

pub depth-push : (ts : List TreeValue) (t : TreeValue) (n : ℕ) → depth (chain ts) ≤ n → suc (depth t.1) ≤ n →
    depth (chain (ts ++ t ∷ [])) ≤ n
depth-push [] t n h k = omega arith
depth-push (x ∷ ts) t n h k =
    let later : depth (chain (ts ++ t ∷ [])) ≤ n = depth-push ts t n (omega arith) k in
    omega arith

-- ---- steps

abbrev opened_at : ℕ → Option StateAt
opened_at d = Some (opened, d)

module _ (limit : ℕ) where
  -- past a `(`
  pub into_child : (d : ℕ) → IsWithin limit d → d < limit → (b inside : List ℕ) → b ≡ 40 ∷ inside →
      outcome limit closed d b ≡ outcome limit opened (d + 1) inside
  into_child d h less b inside e =
      let more : suc d ≡ d + 1 = omega arith in
      ap (outcome limit closed d) e ∙ machine.goes_on limit closed d 40 inside opened (d + 1) (ap opened_at more)
      (omega arith, omega arith)

  -- past a `)`
  pub out_of_child : (d : ℕ) → 1 ≤ d → (rest : List ℕ) → outcome_after limit (d + 1) rest ≡ outcome limit closed d rest
  out_of_child d h rest =
      let other : (d + 1 == 1) ≡ false = grind (arith, nat_tests) in
      let same : d + 1 - 1 ≡ d = omega arith in
      rw (other, same) refl

  pub too_deep : (b inside : List ℕ) → b ≡ 40 ∷ inside → outcome limit closed limit b ≡ Err (Deep (length b))
  too_deep b inside e =
      let same : (suc limit == suc limit) ≡ true = eq-eqb (suc limit) (suc limit) refl in
      rw e (machine.outcome_more limit closed limit 40 inside ∙ rw same refl)

  pub close_stops : (d : ℕ) (ps : List Part) (b rest : List ℕ) → SpellsParts b ps rest → is_first 40 rest ≡ false →
      is_first 41 rest ≡ false →
      outcome limit closed d rest ≡ Err (here rest)
  close_stops d ps b rest h e f = machine.closed_stops limit d rest (no_space_after ps b rest h) e f

  -- past the `)` of the tree itself
  pub closes : (d : ℕ) → IsWithin limit d → (b after : List ℕ) → b ≡ 41 ∷ after →
      outcome limit closed d b ≡ outcome_after limit d (without_space after)
  closes zero h b after e = absurd (omega arith)
  closes (suc zero) h b after e =
      let shallow : (0 == suc limit) ≡ false = grind (arith, nat_tests) in
      ap (outcome limit closed 1) e ∙ machine.outcome_more limit closed 1 41 after ∙ rw shallow refl
  closes (suc (suc d)) h b after e =
      let other : (suc (suc d) == 1) ≡ false = grind (arith, nat_tests) in
      let same : suc (suc d) - 1 ≡ suc d = omega arith in
      ap (outcome limit closed (suc (suc d))) e
      ∙ machine.goes_on limit closed (suc (suc d)) 41 after closed (suc d) refl (omega arith, omega arith)
      ∙ machine.closed_white limit (suc d) (omega arith, omega arith) after
      ∙ rw (other, same) refl

pub tree_le : (d : ℕ) (b : List ℕ) (t : TreeValue) (rest : List ℕ) → ReadsTree d b t rest → length rest ≤ length b
tree_le d b t rest r = rest_le (flat_map node_parts t.0 ++ (parts t.1 ++ (closing ∷ []))) b rest r.spelling

-- what a tree that was made stands for
pub tree_of-roll : {A : Type 0} (x : Tree-F A (Tree A)) → tree_of (roll-Tree A x) ≡ (x.nodes, trees_of x.children.items)
tree_of-roll {A} x = fold-roll-Tree A TreeValue nodes_and_children x

-- what a tree that is looked at stands for
pub tree_of-out : {A : Type 0} (t : Tree A) → tree_of t ≡ ((out-Tree A t).nodes, trees_of (out-Tree A t).children.items)
tree_of-out {A} t = fold_out-Tree A TreeValue nodes_and_children t

-- ---- a tree read so far

pub record TreeSoFar (d : ℕ) (b : List ℕ) (ns : List (List Property)) (ts : List TreeValue) (rest : List ℕ) :
    Type 0 where
  pub fit : AreTrees (chain ts)
  pub nesting : depth (chain ts) + d ≤ MAX_DEPTH
  pub spelling : SpellsParts b (flat_map node_parts ns ++ parts (chain ts)) rest
  pub place : outcome MAX_DEPTH opened d b ≡ outcome MAX_DEPTH closed d rest

pub tree_first : (d : ℕ) → IsWithin MAX_DEPTH d → (b : List ℕ) (ns : List (List Property)) (rest : List ℕ) →
    ReadsNodes b ns rest →
    outcome MAX_DEPTH opened d b ≡ outcome MAX_DEPTH closed d rest → TreeSoFar d b ns [] rest
tree_first d h b ns rest r place = record {
  fit = tt;
  nesting = omega arith;
  spelling =
      let P : List Part → Type 0 = λ ps. SpellsParts b ps rest in
      subst P (sym (append-nil (flat_map node_parts ns))) r.spelling;
  place = place;
}

pub tree_more : (d : ℕ) → IsWithin MAX_DEPTH d → d < MAX_DEPTH →
    (b : List ℕ) (ns : List (List Property)) (ts ts' : List TreeValue) (rest inside : List ℕ) (t : TreeValue)
    (more : List ℕ) → TreeSoFar d b ns ts rest → ts' ≡ ts ++ t ∷ [] → rest ≡ 40 ∷ inside →
    ReadsTree (d + 1) inside t more →
    outcome MAX_DEPTH opened (d + 1) inside ≡ outcome_after MAX_DEPTH (d + 1) more → TreeSoFar d b ns ts' more
tree_more d h less b ns ts ts' rest inside t more far e f r place =
    let Q : List TreeValue → Type 0 = λ xs. TreeSoFar d b ns xs more in
    subst Q (sym e) (record {
      fit = chain-push ts t far.fit r.some r.nodes r.children;
      nesting =
          let deep : depth (chain (ts ++ t ∷ [])) ≤ MAX_DEPTH - d =
          depth-push ts t (MAX_DEPTH - d) (omega (arith, far.nesting)) (omega (arith, r.nesting)) in
          omega arith;
      spelling =
          let tail : List Part = opening ∷ (flat_map node_parts t.0 ++ (parts t.1 ++ (closing ∷ []))) in
          let whole : flat_map node_parts ns
          ++ parts (chain (ts ++ t ∷ [])) ≡ (flat_map node_parts ns ++ parts (chain ts)) ++ tail =
          ap (λ ps. flat_map node_parts ns ++ ps) (parts-push ts t)
          ∙ sym (append_assoc (flat_map node_parts ns) (parts (chain ts)) tail) in
          let P : List Part → Type 0 = λ ps. SpellsParts b ps more in
          subst P (sym whole)
          (SpellsParts-append (flat_map node_parts ns ++ parts (chain ts)) tail b rest more far.spelling
          (inside, ap without_space f, r.spelling));
      place = far.place ∙ into_child MAX_DEPTH d h less rest inside f ∙ place ∙ out_of_child MAX_DEPTH d h.0 more;
    })

-- after the last child
pub tree_whole : (d : ℕ) (b : List ℕ) (ns : List (List Property)) (ts : List TreeValue) (at rest after : List ℕ) →
    ReadsNodes b ns at → TreeSoFar d b ns ts rest →
    rest ≡ 41 ∷ after → ReadsToEnd d b (ns, chain ts) after
tree_whole d b ns ts at rest after r far e = record {
  tree = record {
    some = r.some;
    nodes = r.fit;
    children = far.fit;
    nesting = far.nesting;
    spelling =
        let P : List Part → Type 0 = λ ps. SpellsParts b ps (without_space after) in
        subst P (append_assoc (flat_map node_parts ns) (parts (chain ts)) (closing ∷ []))
        (SpellsParts-append (flat_map node_parts ns ++ parts (chain ts)) (closing ∷ []) b rest (without_space after)
        far.spelling (after, ap without_space e, refl));
  };
  closed =
      let Q : List ℕ → Type 0 = λ xs. SpellsParts b (flat_map node_parts ns ++ parts (chain ts)) xs in
      subst Q e far.spelling;
}
