-- The fronts of a tree's text stand.
use Rattle.std.proofs.Common.{◌≡◌, ◌≢◌, ◌≤◌, ◌<◌, ◌+◌, ◌==◌, inl, inr, ℕ, zero, suc, List, [], ◌∷◌, ◌++◌, false, Option, Some, None, Ok, Err, refl, sym, ap, subst, ◌∙◌, length, take, drop, append_assoc, length-append, eqb-true, arith}
use Rattle.std.proofs.lemmas.Bool.{cases_Bool, cases_lt, eqb-false}
use Rattle.std.proofs.lemmas.List.{drop-append-le, take_all}
use Rattle.std.specs.List.{flat_map}
use Rattle.go_sgf.specs.Record.{Property, Trees, none, tree, AreTrees, depth}
use Rattle.go_sgf.specs.Spelling.{Part, closing, text, without_space, is_space, node_parts, parts, SpellsParts}
use Rattle.go_sgf.specs.Stands.{State, StateAt, step, run, stands, opened, whole, IsUnfinished, IsWhole}
use Rattle.go_sgf.specs.inner.Outcome.{outcome, outcome_on, IsWithin}
use Rattle.go_sgf.specs.inner.Reads.{begins_space}
use Rattle.go_sgf.specs.Laws.{FrontsStand}
use Rattle.go_sgf.specs.declared.error.ReadError.TheVariants.{End, Deep}
use Rattle.go_sgf.proofs.Machine as machine
use Rattle.go_sgf.proofs.Outcomes.{tree_outcome}
use Rattle.go_sgf.proofs.Parts.{SpellsParts-append, after_space-same}
use Rattle.go_sgf.proofs.Passing.{push_some}
use Rattle.go_sgf.proofs.Scanning.{after_space_more, after_space_stop}
use Rattle.go_sgf.proofs.Standing.{MayLead, step_leads, run_more}

-- ---- the end of a tree

-- from a state on the bytes stand unfinished up to a place, where the tree is whole, and this is left after it
pub record WholeIs (s : State) (d : ℕ) (b r : List ℕ) : Type 0 where
  pub at : ℕ
  pub within : at ≤ length b
  pub before : (k : ℕ) → k < at → IsUnfinished (run s d (take k b))
  pub done : IsWhole (run s d (take at b))
  pub left : without_space (drop at b) ≡ r

module _ (limit : ℕ) where
  whole_here : (s : State) (d c : ℕ) (cs r : List ℕ) (p : StateAt) → s ≢ whole → step s d c ≡ Some p → p.0 ≡ whole →
      without_space cs ≡ r →
      WholeIs s d (c ∷ cs) r
  whole_here s d c cs r p ne e done left =
      let Q : Option StateAt → Type 0 = λ o. IsWhole o in
      record {
        at = 1;
        within = omega arith;
        before = before;
        done = subst Q (sym (run_more limit s d c [] p e)) done;
        left = left;
      }
    where
      before : (k : ℕ) → k < 1 → IsUnfinished (run s d (take k (c ∷ cs)))
      before zero less = ne
      before (suc k) less = absurd (omega arith)

  whole_later : (s : State) (d c : ℕ) (cs r : List ℕ) (p : StateAt) → s ≢ whole → step s d c ≡ Some p →
      WholeIs p.0 p.1 cs r → WholeIs s d (c ∷ cs) r
  whole_later s d c cs r p ne e i =
      let Q : Option StateAt → Type 0 = λ o. IsWhole o in
      record {
        at = suc i.at;
        within = let h = i.within in omega arith;
        before = before;
        done = subst Q (sym (run_more limit s d c (take i.at cs) p e)) i.done;
        left = i.left;
      }
    where
      before : (k : ℕ) → k < suc i.at → IsUnfinished (run s d (take k (c ∷ cs)))
      before zero less = ne
      before (suc k) less =
          let P : Option StateAt → Type 0 = λ o. IsUnfinished o in
          subst P (sym (run_more limit s d c (take k cs) p e)) (i.before k (omega arith))

  by_step : (s : State) (d c : ℕ) (cs r : List ℕ) → s ≢ whole → (o : Option StateAt) → step s d c ≡ o → MayLead d o →
      outcome_on limit o (suc (length cs)) cs (λ p. outcome limit p.0 p.1 cs) ≡ Ok r →
      ((s' : State) (d' : ℕ) → s' ≢ whole → IsWithin limit d' → outcome limit s' d' cs ≡ Ok r → WholeIs s' d' cs r) →
      d ≤ limit → WholeIs s d (c ∷ cs) r
  by_step s d c cs r ne None step_is leads e later deep = cc
  by_step s d c cs r ne (Some p) step_is leads e later deep = elim (cases_Bool (p.1 == suc limit)) [
    | inl too_deep ↦ let e' : Err (Deep (suc (length cs))) ≡ Ok r = rw too_deep at e in cc
    | inr shallow ↦ elim (cases_Bool (p.1 == 0)) [
      | inl end ↦
          let e' : Ok (without_space cs) ≡ Ok r = rw (shallow, end) at e in
          whole_here s d c cs r p ne step_is (leads.all (eqb-true p.1 0 end)) (cc)
      | inr some ↦
          let e' : outcome limit p.0 p.1 cs ≡ Ok r = rw (shallow, some) at e in
          let above : p.1 ≢ 0 = eqb-false p.1 0 some in
          let below : p.1 ≢ suc limit = eqb-false p.1 (suc limit) shallow in
          let at_most : p.1 ≤ suc d = leads.deep in
          let at_least : 1 ≤ p.1 = omega arith in
          whole_later s d c cs r p ne step_is (later p.0 p.1 (leads.some at_least) (at_least, omega arith) e')
    ]
  ]

  pub whole_is : (b : List ℕ) (s : State) (d : ℕ) (r : List ℕ) → s ≢ whole → IsWithin limit d →
      outcome limit s d b ≡ Ok r → WholeIs s d b r
  whole_is [] s d r ne h e = let same : Err End ≡ Ok r = sym (machine.outcome_end limit s d) ∙ e in cc
  whole_is (c ∷ cs) s d r ne h e =
      by_step s d c cs r ne (step s d c) refl (step_leads d h.0 s c) (sym (machine.outcome_more limit s d c cs) ∙ e)
      (λ s' d' ne' h' e'. whole_is cs s' d' r ne' h' e') h.1

-- ---- a tree's text

after_space-append : (b xs : List ℕ) → begins_space xs ≡ false → without_space (b ++ xs) ≡ without_space b ++ xs
after_space-append [] xs e = after_space-same xs e
after_space-append (c ∷ cs) xs e = elim (cases_Bool (is_space c)) [
  | inl w ↦ rw (after_space_more c cs w, after_space_more c (cs ++ xs) w) (after_space-append cs xs e)
  | inr w ↦ rw (after_space_stop c cs w, after_space_stop c (cs ++ xs) w) refl
]

-- more of the text after what is spelled
SpellsParts-longer : (ps : List Part) (b r xs : List ℕ) → begins_space xs ≡ false → SpellsParts b ps r →
    SpellsParts (b ++ xs) ps (r ++ xs)
SpellsParts-longer [] b r xs e h = after_space-append b xs e ∙ ap (λ ys. ys ++ xs) h
SpellsParts-longer (p ∷ ps) b r xs e h = (
  h.0 ++ xs,
  after_space-append b xs e ∙ ap (λ ys. ys ++ xs) h.1 ∙ append_assoc (text p) h.0 xs,
  SpellsParts-longer ps h.0 r xs e h.2,
)

-- a text that ends with `)` isn't white space
ends_some : (b : List ℕ) → without_space (b ++ (41 ∷ [])) ≢ []
ends_some b e =
    let is : without_space b ++ (41 ∷ []) ≡ [] = sym (after_space-append b (41 ∷ []) refl) ∙ e in
    push_some (without_space b) 41 is

-- a tree's `)` after its nodes and its children, and what follows it
pub tree_closed : (nodes : List (List Property)) (children : Trees) (ps : List Part) (inner after r : List ℕ) →
    SpellsParts inner (flat_map node_parts nodes ++ parts children) [] → SpellsParts after ps r →
    SpellsParts (inner ++ (41 ∷ after)) (flat_map node_parts nodes ++ (parts children ++ (closing ∷ ps))) r
tree_closed nodes children ps inner after r s later =
    let b : List ℕ = inner ++ (41 ∷ after) in
    let own : List Part = flat_map node_parts nodes ++ parts children in
    let longer : SpellsParts b own (41 ∷ after) = SpellsParts-longer own inner [] (41 ∷ after) refl s in
    let P : List Part → Type 0 = λ qs. SpellsParts b qs r in
    subst P (append_assoc (flat_map node_parts nodes) (parts children) (closing ∷ ps))
    (SpellsParts-append own (closing ∷ ps) b (41 ∷ after) r longer (after, refl, later))

inner_outcome : (nodes : List (List Property)) (children : Trees) (inner : List ℕ) →
    AreTrees (tree nodes children none) →
    SpellsParts inner (flat_map node_parts nodes ++ parts children) [] →
    outcome (depth children + 1) opened 1 (inner ++ (41 ∷ [])) ≡ Ok []
inner_outcome nodes children inner fit s =
    let whole : SpellsParts (inner ++ (41 ∷ [])) (flat_map node_parts nodes ++ (parts children ++ (closing ∷ []))) [] =
    tree_closed nodes children [] inner [] [] s refl in
    tree_outcome (depth children + 1) 1 (omega arith, omega arith) nodes children (inner ++ (41 ∷ [])) [] fit.0 fit.1
    fit.2 (omega arith) whole

-- the tree is whole at the end of its text
ends_there : (inner : List ℕ) (i : WholeIs opened 1 (inner ++ (41 ∷ [])) []) → i.at ≡ length (inner ++ (41 ∷ []))
ends_there inner i = elim (cases_lt (length inner) i.at) [
  | inl past ↦ let h = i.within in omega (arith, length-append inner (41 ∷ []))
  | inr before ↦
      let rest : drop i.at (inner ++ (41 ∷ [])) ≡ drop i.at inner ++ (41 ∷ []) =
      drop-append-le i.at inner (41 ∷ []) before in
      absurd (ends_some (drop i.at inner) (sym (ap without_space rest) ∙ i.left))
]

prefixes : (b : List ℕ) (i : WholeIs opened 1 b []) → i.at ≡ length b → (k : ℕ) → 0 < k →
    (k < length (40 ∷ b) → IsUnfinished (stands (take k (40 ∷ b))))
    × (length (40 ∷ b) ≤ k → IsWhole (stands (take k (40 ∷ b))))
prefixes b i e zero some = absurd (omega arith)
prefixes b i e (suc k) some = (
  λ less. i.before k (omega arith),
  λ all.
      let P : List ℕ → Type 0 = λ xs. IsWhole (run opened 1 xs) in
      let same : take i.at b ≡ take k b = take_all i.at b (omega arith) ∙ sym (take_all k b (omega arith)) in
      subst P same i.done,
)

pub fronts_stand : FrontsStand
fronts_stand t nodes children fit s k some =
    let b : List ℕ = s.0 ++ (41 ∷ []) in
    let i : WholeIs opened 1 b [] =
    whole_is (depth children + 1) b opened 1 [] (λ e. cc) (omega arith, omega arith)
    (inner_outcome nodes children s.0 fit s.2) in
    let P : List ℕ → Type 0 = λ xs. (k < length xs → IsUnfinished (stands (take k xs)))
    × (length xs ≤ k → IsWhole (stands (take k xs))) in
    subst P (sym s.1) (prefixes b i (ends_there s.0 i) k some)
