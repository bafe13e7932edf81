-- Tables stay tidy when a chain is taken off.
use Rattle.std.proofs.Common.{ℕ, ◌<◌, ◌≡◌, ◌≢◌, inl, inr, sym, ap, ◌∙◌, subst, arith, List, [], ◌∷◌}
use Rattle.std.proofs.lemmas.Bool.{cases_eq}
use Rattle.go_chains.specs.inner.Rings.{IsRing, IsOnRing}
use Rattle.go_chains.specs.inner.Tables.{Tables, IsStone, Links, IsTidy, AreChainsWhole}
use Rattle.go_chains.specs.inner.Steps.{IsRemoved}
use Rattle.go_chains.proofs.tables.Rings.{IsRing-kept, IsOn-kept, IsOn-was}

module _ (n : ℕ) (adj : ℕ → ℕ → Type 0) (flip : (p q : ℕ) → adj p q → adj q p) (inside : (p q : ℕ) → adj p q → q < n)
    (t t' : Tables) (r : ℕ) (tidy : IsTidy n adj t) (whole : AreChainsWhole n adj t) (m : IsRemoved n adj t t' r) where
  -- what stands still stood before, with another label
  pub was : (q : ℕ) → IsStone n t' q → IsStone n t q × (t.label q ≢ t.label r)
  was q stone =
      let here : t.colour q ≡ 0 → ⊥ = λ none.
      (let e : t'.colour q ≡ t.colour q =
      m.colours q stone.0 (λ s. absurd (let z : 0 < t.colour q = s.1 in omega arith)) in let s :
      0 < t'.colour q = stone.1 in omega arith) in
      let before : IsStone n t q = (
        stone.0,
        elim (cases_eq (t.colour q) 0) [ inl none ↦ absurd (here none) | inr some ↦ omega arith ],
      ) in
      (before, λ same. (let z = m.gone q before same in let s : 0 < t'.colour q = stone.1 in omega arith))

  pub now : (q : ℕ) → IsStone n t q → t.label q ≢ t.label r → IsStone n t' q
  now q stone other = (
    stone.0,
    let e = m.colours q stone.0 (λ s. other) in let s : 0 < t.colour q = stone.1 in
        omega arith,
  )

  pub head : (q : ℕ) → IsStone n t q → IsStone n t (t.label q)
  head q stone = (
    tidy.head_in q stone,
    let e = tidy.head_colour q stone in let s : 0 < t.colour q = stone.1 in
        omega arith,
  )

  pub size_was : (q : ℕ) → IsStone n t q → t'.size (t'.label q) ≡ t.size (t.label q)
  size_was q stone = ap t'.size (m.labels q stone.0) ∙ m.sizes (t.label q) (tidy.head_in q stone)

  pub kept : (q : ℕ) → IsStone n t q → (x : ℕ) → IsOnRing t.next (t.size (t.label q)) q x → t'.next x ≡ t.next x
  kept q stone x on = m.nexts x (tidy.on_ring q x stone on).0.0

  -- links over stones of a chain that is left
  pub Links-left : (p : ℕ) (via : List ℕ) (q : ℕ) → IsStone n t p → t.label p ≢ t.label r → Links adj t.colour p via q →
      Links adj t'.colour p via q
  Links-left p [] q stone other links = links
  Links-left p (x ∷ xs) q stone other links =
      let x_in : x < n = inside p x links.0 in
      let same : t.colour x ≡ t.colour p = links.1 in
      let x_stone : IsStone n t x = (x_in, let s : 0 < t.colour p = stone.1 in omega arith) in
      let label_is : t.label p ≡ t.label x = whole p x stone x_stone links.0 (sym same) in
      let x_other : t.label x ≢ t.label r = λ e. other (label_is ∙ e) in (
        links.0,
        m.colours x x_in (λ s. x_other) ∙ same ∙ sym (m.colours p stone.0 (λ s. other)),
        Links-left x xs q x_stone x_other links.2,
      )

  -- removing a chain keeps the tables together
  pub IsTidy-removed : IsTidy n adj t'
  IsTidy-removed = record {
    head_in = λ q stone. let s = was q stone in let e = m.labels q stone.0 in let h = tidy.head_in q s.0 in omega arith;
    head_colour = λ q stone. let s = was q stone in
        ap t'.colour (m.labels q stone.0)
        ∙ m.colours (t.label q) (tidy.head_in q s.0) (λ _ e. s.1 (sym (tidy.head_label q s.0) ∙ e))
        ∙ tidy.head_colour q s.0 ∙ sym (m.colours q stone.0 (λ _. s.1));
    head_label = λ q stone. let s = was q stone in
        ap t'.label (m.labels q stone.0) ∙ m.labels (t.label q) (tidy.head_in q s.0) ∙ tidy.head_label q s.0
        ∙ sym (m.labels q stone.0);
    ring = λ q stone. let s = was q stone in
        let R : ℕ → Type 0 = λ k. IsRing t'.next k q in
        subst R (sym (size_was q s.0)) (IsRing-kept t.next t'.next (t.size (t.label q)) q (tidy.ring q s.0)
        (kept q s.0));
    on_ring = λ q x stone on. let s = was q stone in
        let O : ℕ → Type 0 = λ k. IsOnRing t'.next k q x in
        let y = tidy.on_ring q x s.0 (IsOn-was t.next t'.next (t.size (t.label q)) q x (kept q s.0)
        (subst O (size_was q s.0) on)) in
        (now x y.0 (λ e. s.1 (sym y.1 ∙ e)), m.labels x y.0.0 ∙ y.1 ∙ sym (m.labels q stone.0));
    ring_has = λ q x stone stone_x same. let s = was q stone in
        let O : ℕ → Type 0 = λ k. IsOnRing t'.next k q x in
        subst O (sym (size_was q s.0)) (IsOn-kept t.next t'.next (t.size (t.label q)) q x (kept q s.0)
        (tidy.ring_has q x s.0 (was x stone_x).0 (sym (m.labels x stone_x.0) ∙ same ∙ m.labels q stone.0)));
    lib_is = λ q x stone x_in one. let s = was q stone in
        elim (m.lib_was q x s.0 s.1 x_in (ap (λ l. t'.lib l x) (sym (m.labels q stone.0)) ∙ one)) [
          | inl before ↦
              let l = tidy.lib_is q x s.0 x_in before in (
                m.colours x x_in (λ x_stone. absurd
                    (let z : 0 < t.colour x = x_stone.1 in let e : t.colour x ≡ 0 = l.0 in omega arith)) ∙ l.0,
                (
                  l.1.0,
                  now l.1.0 l.1.1 (λ e. s.1 (sym l.1.2 ∙ e)),
                  m.labels l.1.0 l.1.1.0 ∙ l.1.2
                      ∙ sym (m.labels q stone.0),
                  l.1.3,
                ),
              )
          | inr given ↦
              let touch = given.2 in (
                m.gone x given.0 given.1,
                (
                  touch.0,
                  now touch.0 touch.1 (λ e. s.1 (sym touch.2 ∙ e)),
                  m.labels touch.0 touch.1.0 ∙ touch.2 ∙ sym (m.labels q stone.0),
                  touch.3,
                ),
              )
        ];
    has_lib = λ q x stone x_in empty touch. let s = was q stone in let y = was touch.0 touch.1 in
        let label_is : t.label touch.0 ≡ t.label q = sym (m.labels touch.0 touch.1.0) ∙ touch.2 ∙ m.labels q stone.0 in
        ap (λ l. t'.lib l x) (m.labels q stone.0) ∙
        elim (cases_eq (t.colour x) 0) [
          | inl none ↦ m.lib_kept q x s.0 s.1 x_in (tidy.has_lib q x s.0 x_in none (touch.0, y.0, label_is, touch.3))
          | inr some ↦
              let x_stone : IsStone n t x = (x_in, omega arith) in
              elim (cases_eq (t.label x) (t.label r)) [
                | inl same ↦ ap (λ l. t'.lib l x) (sym label_is) ∙ m.lib_given touch.0 x y.0 y.1 x_stone same touch.3
                | inr other ↦ absurd (some (sym (m.colours x x_in (λ _. other)) ∙ empty))
              ]
        ];
    joined = λ q x stone stone_x same. let s = was q stone in let y = was x stone_x in
        let via = tidy.joined q x s.0 y.0 (sym (m.labels q stone.0) ∙ same ∙ m.labels x stone_x.0) in
        (via.0, Links-left q via.0 x s.0 s.1 via.1);
  }

  pub IsWhole-removed : AreChainsWhole n adj t'
  IsWhole-removed p q stone stone_q beside same =
      let s = was p stone in let y = was q stone_q in
      m.labels p stone.0 ∙ whole p q s.0 y.0 beside
      (sym (m.colours p stone.0 (λ _. s.1)) ∙ same ∙ m.colours q stone_q.0 (λ _. y.1)) ∙ sym (m.labels q stone_q.0)
