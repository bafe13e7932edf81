-- Tables stay tidy when a point gets a stone.
use Rattle.std.proofs.Common.{ℕ, ◌<◌, ◌≡◌, ◌≢◌, inl, inr, refl, sym, ap, ◌∙◌, subst, arith, List, [], ◌∷◌}
use Rattle.std.proofs.lemmas.Bool.{cases_eq}
use Rattle.go_chains.specs.inner.Rings.{steps, IsRing, IsOnRing}
use Rattle.go_chains.specs.inner.Tables.{Tables, IsStone, Links, IsJoined, Touches, IsTidy}
use Rattle.go_chains.specs.inner.Steps.{IsPlaced}
use Rattle.go_chains.proofs.tables.Rings.{IsRing-kept, IsOn-kept, IsOn-was}

-- links over stones, by colours that are the same at stones
pub Links-stones : (n : ℕ) (adj : ℕ → ℕ → Type 0) (inside : (p q : ℕ) → adj p q → q < n) (f g : ℕ → ℕ) (p : ℕ)
    (via : List ℕ) (q : ℕ) → p < n → 0 < f p
    → ((x : ℕ) → x < n → 0 < f x → g x ≡ f x) → Links adj f p via q → Links adj g p via q
Links-stones n adj inside f g p [] q p_in some e links = links
Links-stones n adj inside f g p (x ∷ xs) q p_in some e links =
    let x_in : x < n = inside p x links.0 in
    let same : f x ≡ f p = links.1 in
    let x_some : 0 < f x = omega arith in (
      links.0,
      e x x_in x_some ∙ links.1 ∙ sym (e p p_in some),
      Links-stones n adj inside f g x xs q x_in x_some e links.2,
    )

pub data Who (n : ℕ) (t : Tables) (p q : ℕ) : Type 0 where
  placed : q ≡ p → Who n t p q
  before : q ≢ p → IsStone n t q → Who n t p q

module _ (n : ℕ) (adj : ℕ → ℕ → Type 0) (inside : (p q : ℕ) → adj p q → q < n) (irreflexive : (p : ℕ) → adj p p → ⊥)
    (t t' : Tables) (p c : ℕ) (tidy : IsTidy n adj t) (o : IsPlaced n adj t t' p c) where
  pub who : (q : ℕ) → IsStone n t' q → Who n t p q
  who q stone = elim (cases_eq q p) [
    | inl new ↦ placed new
    | inr old ↦ before old (
      stone.0,
      let e = o.colours q stone.0 old in let s : 0 < t'.colour q = stone.1 in
          omega arith,
    )
  ]

  -- a stone that stood before is not at p
  pub not_p : (q : ℕ) → IsStone n t q → q ≢ p
  not_p q stone e = let s : 0 < t.colour q = stone.1 in let z : t.colour q ≡ 0 = ap t.colour e ∙ o.empty in omega arith

  pub now : (q : ℕ) → IsStone n t q → IsStone n t' q
  now q stone = (
    stone.0,
    let e = o.colours q stone.0 (not_p q stone) in let s : 0 < t.colour q = stone.1 in
        omega arith,
  )

  -- the label of a stone that stood before is a stone that stood before
  pub head : (q : ℕ) → IsStone n t q → IsStone n t (t.label q)
  head q stone = (
    tidy.head_in q stone,
    let e = tidy.head_colour q stone in let s : 0 < t.colour q = stone.1 in
        omega arith,
  )

  pub label_not_p : (q : ℕ) → IsStone n t q → t.label q ≢ p
  label_not_p q stone = not_p (t.label q) (head q stone)

  pub label_was : (q : ℕ) → IsStone n t q → t'.label q ≡ t.label q
  label_was q stone = o.labels q stone.0 (not_p q stone)

  pub kept : (q : ℕ) → IsStone n t q → (r : ℕ) → IsOnRing t.next (t.size (t.label q)) q r → t'.next r ≡ t.next r
  kept q stone r on = let s = (tidy.on_ring q r stone on).0 in o.nexts r s.0 (not_p r s)

  pub size_was : (q : ℕ) → IsStone n t q → t'.size (t'.label q) ≡ t.size (t.label q)
  size_was q stone = ap t'.size (label_was q stone) ∙ o.sizes (t.label q) (tidy.head_in q stone) (label_not_p q stone)

  pub size_p : (q : ℕ) → q ≡ p → t'.size (t'.label q) ≡ 1
  size_p q e = ap t'.size (ap t'.label e ∙ o.label_is) ∙ o.size_is

  -- only the new stone has the new label
  pub only_p : (q : ℕ) → IsStone n t' q → t'.label q ≡ p → q ≡ p
  only_p q stone is = elim (who q stone) [
    | placed e ↦ e
    | before ne old ↦ absurd (label_not_p q old (sym (label_was q old) ∙ is))
  ]

  pub p_stone : IsStone n t' p
  p_stone = (o.within, let e = o.colour_is in let s = o.some in omega arith)

  pub head' : (q : ℕ) → IsStone n t' q → (t'.label q < n) × (t'.colour (t'.label q) ≡ t'.colour q)
      × (t'.label (t'.label q) ≡ t'.label q)
  head' q stone =
      let L : ℕ → Type 0 = λ k. (k < n) × (t'.colour k ≡ t'.colour q) × (t'.label k ≡ k) in
      elim (who q stone) [
        | placed e ↦ subst L (sym (ap t'.label e ∙ o.label_is)) (o.within, ap t'.colour (sym e), o.label_is)
        | before ne old ↦ subst L (sym (label_was q old)) (
          tidy.head_in q old,
          o.colours (t.label q) (tidy.head_in q old) (label_not_p q old) ∙ tidy.head_colour q old
              ∙ sym (o.colours q old.0 ne),
          label_was (t.label q) (head q old) ∙ tidy.head_label q old,
        )
      ]

  pub ring' : (q : ℕ) → IsStone n t' q → IsRing t'.next (t'.size (t'.label q)) q
  ring' q stone =
      let R : ℕ → Type 0 = λ k. IsRing t'.next k q in
      elim (who q stone) [
        | placed e ↦ subst R (sym (size_p q e))
            (record {
              some = omega arith;
              closes = ap t'.next e ∙ o.next_is ∙ sym e;
              apart = λ i j below_i below_j same.
                  omega arith;
            })
        | before ne old ↦ subst R (sym (size_was q old))
            (IsRing-kept t.next t'.next (t.size (t.label q)) q (tidy.ring q old) (kept q old))
      ]

  pub on_ring' : (q r : ℕ) → IsStone n t' q → IsOnRing t'.next (t'.size (t'.label q)) q r → IsStone n t' r
      × (t'.label r ≡ t'.label q)
  on_ring' q r stone on =
      let O : ℕ → Type 0 = λ k. IsOnRing t'.next k q r in
      elim (who q stone) [
        | placed e ↦
            let at : IsOnRing t'.next 1 q r = subst O (size_p q e) on in
            let i = at.0 in let below : i < 1 = at.1 in
            let is : q ≡ r = ap (λ k. steps t'.next k q) (let z : 0 ≡ i = omega arith in z) ∙ at.2 in
            let S : ℕ → Type 0 = λ x. IsStone n t' x × (t'.label x ≡ t'.label q) in subst S is (stone, refl)
        | before ne old ↦
            let s = tidy.on_ring q r old (IsOn-was t.next t'.next (t.size (t.label q)) q r (kept q old)
            (subst O (size_was q old) on)) in
            (now r s.0, label_was r s.0 ∙ s.1 ∙ sym (label_was q old))
      ]

  pub ring_has' : (q r : ℕ) → IsStone n t' q → IsStone n t' r → t'.label r ≡ t'.label q →
      IsOnRing t'.next (t'.size (t'.label q)) q r
  ring_has' q r stone stone_r same =
      let O : ℕ → Type 0 = λ k. IsOnRing t'.next k q r in
      elim (who q stone) [
        | placed e ↦ subst O (sym (size_p q e))
            (0, omega arith, e ∙ sym (only_p r stone_r (same ∙ ap t'.label e ∙ o.label_is)))
        | before ne old ↦ elim (who r stone_r) [
          | placed e ↦ absurd (label_not_p q old (sym (label_was q old) ∙ sym same ∙ ap t'.label e ∙ o.label_is))
          | before ne_r old_r ↦ subst O (sym (size_was q old))
              (IsOn-kept t.next t'.next (t.size (t.label q)) q r (kept q old)
              (tidy.ring_has q r old old_r (sym (label_was r old_r) ∙ same ∙ label_was q old)))
        ]
      ]

  pub lib_is' : (q r : ℕ) → IsStone n t' q → r < n → t'.lib (t'.label q) r ≡ 1 → (t'.colour r ≡ 0)
      × Touches n adj t' (t'.label q) r
  lib_is' q r stone r_in one = elim (who q stone) [
    | placed e ↦
        let l = o.lib_is r r_in (ap (λ x. t'.lib x r) (sym (ap t'.label e ∙ o.label_is)) ∙ one) in
        let ne : r ≢ p = λ is. not_self r l.1 is in
        (o.colours r r_in ne ∙ l.0, (p, p_stone, ap t'.label (sym e), l.1))
    | before ne old ↦
        let as_was : t'.lib (t.label q) r ≡ 1 = ap (λ x. t'.lib x r) (sym (label_was q old)) ∙ one in
        elim (cases_eq r p) [
          | inl at ↦ absurd (let z : t'.lib (t.label q) r ≡ 0 = ap (t'.lib (t.label q)) at ∙ o.lib_lost q old in
              omega arith)
          | inr off ↦
              let l = tidy.lib_is q r old r_in (sym (o.libs q r old r_in off) ∙ as_was) in (
                o.colours r r_in off ∙ l.0,
                (
                  l.1.0,
                  now l.1.0 l.1.1,
                  label_was l.1.0 l.1.1 ∙ l.1.2
                      ∙ sym (label_was q old),
                  l.1.3,
                ),
              )
        ]
  ]
    where
      not_self : (x : ℕ) → adj p x → x ≡ p → ⊥
      not_self x beside is = let A : ℕ → Type 0 = λ y. adj p y in irreflexive p (subst A is beside)

  pub has_lib' : (q r : ℕ) → IsStone n t' q → r < n → t'.colour r ≡ 0 → Touches n adj t' (t'.label q) r →
      t'.lib (t'.label q) r ≡ 1
  has_lib' q r stone r_in empty touch =
      let off : r ≢ p = λ e. (let z : t'.colour r ≡ c = ap t'.colour e ∙ o.colour_is in let s = o.some in
      omega arith) in
      let empty_before : t.colour r ≡ 0 = sym (o.colours r r_in off) ∙ empty in
      elim (who q stone) [
        | placed e ↦
            let lab : t'.label q ≡ p = ap t'.label e ∙ o.label_is in
            let s_is : touch.0 ≡ p = only_p touch.0 touch.1 (touch.2 ∙ lab) in
            let A : ℕ → Type 0 = λ x. adj x r in
            ap (λ x. t'.lib x r) lab ∙ o.has_lib r r_in empty_before (subst A s_is touch.3)
        | before ne old ↦ elim (who touch.0 touch.1) [
          | placed e ↦ absurd (label_not_p q old (sym (label_was q old) ∙ sym touch.2 ∙ ap t'.label e ∙ o.label_is))
          | before ne_s old_s ↦ ap (λ x. t'.lib x r) (label_was q old) ∙ o.libs q r old r_in off
              ∙ tidy.has_lib q r old r_in empty_before
              (touch.0, old_s, sym (label_was touch.0 old_s) ∙ touch.2 ∙ label_was q old, touch.3)
        ]
      ]

  pub joined' : (q r : ℕ) → IsStone n t' q → IsStone n t' r → t'.label q ≡ t'.label r → IsJoined adj t'.colour q r
  joined' q r stone stone_r same = elim (who q stone) [
    | placed e ↦ ([], e ∙ sym (only_p r stone_r (sym same ∙ ap t'.label e ∙ o.label_is)))
    | before ne old ↦ elim (who r stone_r) [
      | placed e ↦ absurd (label_not_p q old (sym (label_was q old) ∙ same ∙ ap t'.label e ∙ o.label_is))
      | before ne_r old_r ↦
          let via = tidy.joined q r old old_r (sym (label_was q old) ∙ same ∙ label_was r old_r) in (
            via.0,
            Links-stones n adj inside t.colour t'.colour q via.0 r old.0 old.1
                (λ x x_in some. o.colours x x_in (not_p x (x_in, some))) via.1,
          )
    ]
  ]

  -- a stone placed alone keeps the tables together
  pub IsTidy-occupied : IsTidy n adj t'
  IsTidy-occupied = record {
    head_in = λ q stone. (head' q stone).0;
    head_colour = λ q stone. (head' q stone).1;
    head_label = λ q stone. (head' q stone).2;
    ring = ring';
    on_ring = on_ring';
    ring_has = ring_has';
    lib_is = lib_is';
    has_lib = has_lib';
    joined = joined';
  }
