-- Tables whose neighbours of one colour are of one chain.
use Rattle.std.proofs.Common.{ℕ, ◌<◌, ◌≡◌, refl, sym, ◌∙◌, subst, arith, List, [], ◌∷◌}
use Rattle.go_chains.specs.inner.Tables.{Tables, IsStone, Links, IsTidy, AreChainsWhole, ReachesEmpty}
use Rattle.go_chains.specs.inner.Steps.{IsJoin}
use Rattle.go_chains.proofs.tables.Joining.{side_of, with_first, with_second, aside}

-- along links over stones the label stays
pub label-linked : (n : ℕ) (adj : ℕ → ℕ → Type 0) (inside : (p q : ℕ) → adj p q → q < n) (t : Tables) →
    AreChainsWhole n adj t → (p : ℕ) (via : List ℕ) (q : ℕ) → IsStone n t p
    → Links adj t.colour p via q → IsStone n t q × (t.label p ≡ t.label q)
label-linked n adj inside t whole p [] q stone links = let P : ℕ → Type 0 = λ x. IsStone n t x
    × (t.label p ≡ t.label x) in subst P links (stone, refl)
label-linked n adj inside t whole p (x ∷ xs) q stone links =
    let same : t.colour x ≡ t.colour p = links.1 in
    let x_stone : IsStone n t x = (inside p x links.0, let s : 0 < t.colour p = stone.1 in omega arith) in
    let rest = label-linked n adj inside t whole x xs q x_stone links.2 in
    (rest.0, whole p x stone x_stone links.0 (sym same) ∙ rest.1)

-- a stone reaches empty exactly where its label has a liberty
pub lib-reaches : (n : ℕ) (adj : ℕ → ℕ → Type 0) (inside : (p q : ℕ) → adj p q → q < n) (t : Tables) → IsTidy n adj t →
    AreChainsWhole n adj t → (p : ℕ) → IsStone n t p
    → ReachesEmpty n adj t.colour p → (x : ℕ) × (x < n) × (t.lib (t.label p) x ≡ 1)
lib-reaches n adj inside t tidy whole p stone reach =
    let q = reach.0 in let x = reach.2 in
    let s = label-linked n adj inside t whole p reach.1.0 q stone reach.1.1 in
    (x, reach.3, tidy.has_lib p x stone reach.3 reach.5 (q, s.0, sym s.1, reach.4))

pub reaches-lib : (n : ℕ) (adj : ℕ → ℕ → Type 0) (t : Tables) → IsTidy n adj t → (p : ℕ) → IsStone n t p
    → (x : ℕ) → x < n → t.lib (t.label p) x ≡ 1 → ReachesEmpty n adj t.colour p
reaches-lib n adj t tidy p stone x x_in one =
    let l = tidy.lib_is p x stone x_in one in
    (l.1.0, tidy.joined p l.1.0 stone l.1.1 (sym l.1.2), x, x_in, l.1.3, l.0)

-- stones of one label keep one label in a join
pub label-join : (n : ℕ) (t t' : Tables) (a b p q : ℕ) → IsJoin n t t' a b → IsStone n t p → IsStone n t q →
    t.label p ≡ t.label q → t'.label p ≡ t'.label q
label-join n t t' a b p q j stone stone_q same = elim (side_of n t t' a b p j stone) [
  | with_first first is ↦ elim (side_of n t t' a b q j stone_q) [
    | with_first first_q is_q ↦ is ∙ sym is_q
    | with_second second_q is_q ↦ is ∙ sym is_q
    | aside not_first not_second is_q ↦ absurd (not_first (sym same ∙ first))
  ]
  | with_second second is ↦ elim (side_of n t t' a b q j stone_q) [
    | with_first first_q is_q ↦ is ∙ sym is_q
    | with_second second_q is_q ↦ is ∙ sym is_q
    | aside not_first not_second is_q ↦ absurd (not_second (sym same ∙ second))
  ]
  | aside not_first not_second is ↦ elim (side_of n t t' a b q j stone_q) [
    | with_first first_q is_q ↦ absurd (not_first (same ∙ first_q))
    | with_second second_q is_q ↦ absurd (not_second (same ∙ second_q))
    | aside _ _ is_q ↦ is ∙ same ∙ sym is_q
  ]
]
