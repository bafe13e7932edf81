-- What spells a tree is read to its end without a fault.
use Rattle.std.proofs.Common.{◌≡◌, ◌≢◌, ◌≤◌, ◌<◌, ◌+◌, inl, inr, ℕ, suc, List, [], ◌∷◌, ◌++◌, true, refl, sym, ap, ◌∙◌, map, append_assoc, arith}
use Rattle.std.proofs.lemmas.Bool.{or_cases}
use Rattle.std.specs.List.{flat_map, AllByRecursion}
use Rattle.go_sgf.specs.Record.{Property, Trees, none, tree, is_upper_byte, is_lower, IsValue, IsProperty, AreTrees, depth}
use Rattle.go_sgf.specs.Spelling.{closing, value_part, property_parts, node_parts, parts, without_space, SpellsParts}
use Rattle.go_sgf.specs.Stands.{State, opened, in_node, named, after, closed}
use Rattle.go_sgf.specs.inner.Outcome.{outcome, outcome_after, IsWithin}
use Rattle.go_sgf.specs.inner.Reads.{is_letter_first}
use Rattle.go_sgf.proofs.Growing.{closes, out_of_child}
use Rattle.go_sgf.proofs.Machine as machine
use Rattle.go_sgf.proofs.Parts.{SpellsParts-split, bracket_no_letter, name_letter}
use Rattle.go_sgf.proofs.Passing.{values_begin, value_passed}

-- how far a tree is read: after a child, after a property's values, or before a node's first property
data Stage : Type 0 where
  AfterChild : Stage
  AfterValues : Stage
  BeforeFirst : Stage

abbrev state_of : Stage → State
state_of AfterChild = closed
state_of AfterValues = after
state_of BeforeFirst = in_node

-- not after a child
abbrev IsInNode : Stage → Type 0
IsInNode AfterChild = ⊥
IsInNode _ = Unit {0}

module _ (limit : ℕ) where
  -- ---- a node

  state_white : (o : Stage) (d : ℕ) → IsWithin limit d → (b : List ℕ) →
      outcome limit (state_of o) d b ≡ outcome limit (state_of o) d (without_space b)
  state_white AfterChild = machine.closed_white limit
  state_white AfterValues = machine.after_value_white limit
  state_white BeforeFirst = machine.in_node_white limit

  values_outcome : (d : ℕ) → IsWithin limit d → (vs : List (List ℕ)) (b r : List ℕ) → AllByRecursion IsValue vs →
      SpellsParts b (map value_part vs) r →
      outcome limit after d b ≡ outcome limit after d r
  values_outcome d h [] b r i s = machine.after_value_white limit d h b ∙ ap (outcome limit after d) s
  values_outcome d h (v ∷ vs) b r i s =
      machine.after_value_white limit d h b
      ∙ value_passed limit d h (without_space b) v (v ++ (93 ∷ s.0)) s.0
      (s.1 ∙ ap (λ xs. 91 ∷ xs) (append_assoc v (93 ∷ []) s.0)) refl i.0
      ∙ sym (machine.after_value_white limit d h s.0)
      ∙ values_outcome d h vs s.0 r i.1 s.2

  first_value : (d : ℕ) → IsWithin limit d → (vs : List (List ℕ)) (b r : List ℕ) → vs ≢ [] →
      SpellsParts b (map value_part vs) r →
      outcome limit named d b ≡ outcome limit after d b
  first_value d h [] b r some s = absurd (some refl)
  first_value d h (v ∷ vs) b r some s =
      values_begin limit d h b (without_space b) (bracket_no_letter b ((v ++ (93 ∷ [])) ++ s.0) s.1) refl (rw s.1 refl)
      ∙ sym (machine.after_value_white limit d h b)

  letter_in_node : (d : ℕ) (o : Stage) → IsInNode o → (b : List ℕ) → is_letter_first b ≡ true →
      outcome limit (state_of o) d b ≡ outcome limit in_node d b
  letter_in_node d AfterChild k b e = absurd k
  letter_in_node d BeforeFirst k b e = refl
  letter_in_node d AfterValues k [] e = cc
  letter_in_node d AfterValues k (c ∷ cs) e =
      machine.one_step limit after in_node d c cs (elim (or_cases (is_upper_byte c) (is_lower c) e) [
        | inl u ↦ machine.outside_upper after d c u ∙ sym (machine.outside_upper in_node d c u)
        | inr l ↦ machine.outside_lower after d c l ∙ sym (machine.outside_lower in_node d c l)
      ])

  property_outcome : (d : ℕ) → IsWithin limit d → (o : Stage) → IsInNode o → (p : Property) (b r : List ℕ) →
      IsProperty p → SpellsParts b (property_parts p) r →
      outcome limit (state_of o) d b ≡ outcome limit after d r
  property_outcome d h o k p b r i s =
      state_white o d h b ∙ ap (outcome limit (state_of o) d) s.1
      ∙ letter_in_node d o k (p.name ++ s.0) (name_letter p.name s.0 i.named)
      ∙ machine.name_outcome limit d h p.name s.0 i.named.0 i.named.1
      ∙ first_value d h p.values s.0 r i.some s.2
      ∙ values_outcome d h p.values s.0 r i.inside s.2

  properties_outcome : (d : ℕ) → IsWithin limit d → (o : Stage) → IsInNode o → (ps : List Property) (b r : List ℕ) →
      AllByRecursion IsProperty ps →
      SpellsParts b (flat_map property_parts ps) r → (o' : Stage) × IsInNode o'
      × (outcome limit (state_of o) d b ≡ outcome limit (state_of o') d r)
  properties_outcome d h o k [] b r i s = (o, k, state_white o d h b ∙ ap (outcome limit (state_of o) d) s)
  properties_outcome d h o k (p ∷ ps) b r i s =
      let split = SpellsParts-split (property_parts p) (flat_map property_parts ps) b r s in
      let later = properties_outcome d h AfterValues tt ps split.0 r i.1 split.2 in
      (later.0, later.1, property_outcome d h o k p b split.0 i.0 split.1 ∙ later.2)

  -- past a `;`
  semicolon_outcome : (d : ℕ) → IsWithin limit d → (o : Stage) → IsInNode o → (b more : List ℕ) →
      without_space b ≡ 59 ∷ more →
      outcome limit (state_of o) d b ≡ outcome limit in_node d more
  semicolon_outcome d h AfterChild k b more e = absurd k
  semicolon_outcome d h AfterValues k b more e =
      state_white AfterValues d h b ∙ ap (outcome limit after d) e
      ∙ machine.goes_on limit after d 59 more in_node d refl h
  semicolon_outcome d h BeforeFirst k b more e =
      state_white BeforeFirst d h b ∙ ap (outcome limit in_node d) e
      ∙ machine.goes_on limit in_node d 59 more in_node d refl h

  later_nodes : (d : ℕ) → IsWithin limit d → (o : Stage) → IsInNode o → (ns : List (List Property)) (b r : List ℕ) →
      AllByRecursion (AllByRecursion IsProperty) ns →
      SpellsParts b (flat_map node_parts ns) r → (o' : Stage)
      × (outcome limit (state_of o) d b ≡ outcome limit (state_of o') d r)
  later_nodes d h o k [] b r i s = (o, state_white o d h b ∙ ap (outcome limit (state_of o) d) s)
  later_nodes d h o k (n ∷ ns) b r i s =
      let split = SpellsParts-split (flat_map property_parts n) (flat_map node_parts ns) s.0 r s.2 in
      let first = properties_outcome d h BeforeFirst tt n s.0 split.0 i.0 split.1 in
      let later = later_nodes d h first.0 first.1 ns split.0 r i.1 split.2 in
      (later.0, semicolon_outcome d h o k b s.0 s.1 ∙ first.2 ∙ later.1)

  -- the nodes of a tree, after its `(`
  nodes_outcome : (d : ℕ) → IsWithin limit d → (ns : List (List Property)) (b r : List ℕ) → ns ≢ [] →
      AllByRecursion (AllByRecursion IsProperty) ns →
      SpellsParts b (flat_map node_parts ns) r → (o' : Stage)
      × (outcome limit opened d b ≡ outcome limit (state_of o') d r)
  nodes_outcome d h [] b r some i s = absurd (some refl)
  nodes_outcome d h (n ∷ ns) b r some i s =
      let split = SpellsParts-split (flat_map property_parts n) (flat_map node_parts ns) s.0 r s.2 in
      let first = properties_outcome d h BeforeFirst tt n s.0 split.0 i.0 split.1 in
      let later = later_nodes d h first.0 first.1 ns split.0 r i.1 split.2 in (
        later.0,
        machine.opened_white limit d h b ∙ ap (outcome limit opened d) s.1
            ∙ machine.goes_on limit opened d 59 s.0 in_node d refl h ∙ first.2 ∙ later.1,
      )

  -- ---- a tree

  -- past a `(`
  opening_outcome : (d : ℕ) → IsWithin limit d → d < limit → (o : Stage) (b more : List ℕ) →
      without_space b ≡ 40 ∷ more →
      outcome limit (state_of o) d b ≡ outcome limit opened (suc d) more
  opening_outcome d h less o b more e =
      state_white o d h b ∙ ap (outcome limit (state_of o) d) e ∙ opens o
    where
      opens : (o : Stage) → outcome limit (state_of o) d (40 ∷ more) ≡ outcome limit opened (suc d) more
      opens AfterChild = machine.goes_on limit closed d 40 more opened (suc d) refl (omega arith, omega arith)
      opens AfterValues = machine.goes_on limit after d 40 more opened (suc d) refl (omega arith, omega arith)
      opens BeforeFirst = machine.goes_on limit in_node d 40 more opened (suc d) refl (omega arith, omega arith)

  -- before a `)` all states of a tree are one
  closing_same : (d : ℕ) (o : Stage) (b more : List ℕ) → b ≡ 41 ∷ more →
      outcome limit (state_of o) d b ≡ outcome limit closed d b
  closing_same d AfterChild b more e = refl
  closing_same d AfterValues b more e = rw e (machine.one_step limit after closed d 41 more refl)
  closing_same d BeforeFirst b more e = rw e (machine.one_step limit in_node closed d 41 more refl)

  closing_outcome : (d : ℕ) → IsWithin limit d → (o : Stage) (b r : List ℕ) → SpellsParts b (closing ∷ []) r →
      outcome limit (state_of o) d b ≡ outcome_after limit d r
  closing_outcome d h o b r s =
      state_white o d h b ∙ closing_same d o (without_space b) s.0 s.1 ∙ closes limit d h (without_space b) s.0 s.1
      ∙ ap (outcome_after limit d) s.2

  -- children, one after another
  children_outcome : (c : Trees) (d : ℕ) → IsWithin limit d → (o : Stage) (b r : List ℕ) → AreTrees c →
      depth c + d ≤ limit →
      SpellsParts b (parts c) r → (o' : Stage) × (outcome limit (state_of o) d b ≡ outcome limit (state_of o') d r)
  children_outcome none d h o b r i deep s = (o, state_white o d h b ∙ ap (outcome limit (state_of o) d) s)
  children_outcome (tree nodes children later) d h o b r i deep s =
      let within : IsWithin limit (suc d) = (omega arith, omega arith) in
      let split = SpellsParts-split (flat_map node_parts nodes) (parts children ++ (closing ∷ parts later)) s.0 r s.2 in
      let rest = SpellsParts-split (parts children) (closing ∷ parts later) split.0 r split.2 in
      let heads = nodes_outcome (suc d) within nodes s.0 split.0 i.0 i.1 split.1 in
      let inner = children_outcome children (suc d) within heads.0 split.0 rest.0 i.2 (omega arith) rest.1 in
      let last = rest.2 in
      let closed_is = closing_outcome (suc d) within inner.0 rest.0 (without_space last.0)
      (last.0, last.1, refl) in
      let after_is : outcome_after limit (suc d) (without_space last.0) ≡ outcome limit closed d
      (without_space last.0) =
      let more : suc d ≡ d + 1 = omega arith in
      ap (λ k. outcome_after limit k (without_space last.0)) more
      ∙ out_of_child limit d h.0 (without_space last.0) in
      let others = children_outcome later d h AfterChild last.0 r i.3 (omega arith) last.2 in (
        others.0,
        opening_outcome d h (omega arith) o b s.0 s.1 ∙ heads.1 ∙ inner.1 ∙ closed_is ∙ after_is
            ∙ sym (machine.closed_white limit d h last.0) ∙ others.1,
      )

  -- a tree, after its `(`
  pub tree_outcome : (d : ℕ) → IsWithin limit d → (nodes : List (List Property)) (children : Trees) (b r : List ℕ) →
      nodes ≢ [] →
      AllByRecursion (AllByRecursion IsProperty) nodes → AreTrees children → depth children + d ≤ limit →
      SpellsParts b (flat_map node_parts nodes ++ (parts children ++ (closing ∷ []))) r →
      outcome limit opened d b ≡ outcome_after limit d r
  tree_outcome d h nodes children b r some i fit deep s =
      let split = SpellsParts-split (flat_map node_parts nodes) (parts children ++ (closing ∷ [])) b r s in
      let rest = SpellsParts-split (parts children) (closing ∷ []) split.0 r split.2 in
      let heads = nodes_outcome d h nodes b split.0 some i split.1 in
      let inner = children_outcome children d h heads.0 split.0 rest.0 fit deep rest.1 in
      heads.1 ∙ inner.1 ∙ closing_outcome d h inner.0 rest.0 r rest.2
