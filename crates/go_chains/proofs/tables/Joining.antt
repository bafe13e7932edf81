-- Tables stay tidy when two chains become one.
use Rattle.std.proofs.Common.{ℕ, ◌+◌, ◌<◌, ◌≡◌, ◌≢◌, ◌⊎◌, inl, inr, refl, sym, ap, ◌∙◌, subst, arith, List, [], ◌∷◌, ◌++◌}
use Rattle.std.proofs.lemmas.Bool.{cases_eq}
use Rattle.go_chains.specs.inner.Rings.{IsRing, IsOnRing}
use Rattle.go_chains.specs.inner.Tables.{Tables, IsStone, Links, IsJoined, Touches, IsTidy}
use Rattle.go_chains.specs.inner.Steps.{IsJoin}
use Rattle.go_chains.proofs.tables.Rings.{IsRing-from, IsOn-from, IsRing-kept, IsOn-kept, IsOn-was, IsSplice, IsRing-splice, IsOn-splice, IsOn-splice_first, IsOn-splice_second}

-- links by colours that are the same everywhere
pub Links-same : (n : ℕ) (adj : ℕ → ℕ → Type 0) (inside : (p q : ℕ) → adj p q → q < n) (f g : ℕ → ℕ) (p : ℕ)
    (via : List ℕ) (q : ℕ) → p < n → ((x : ℕ) → x < n → g x ≡ f x) → Links adj f p via q → Links adj g p via q
Links-same n adj inside f g p [] q p_in e links = links
Links-same n adj inside f g p (x ∷ xs) q p_in e links =
    let x_in : x < n = inside p x links.0 in
    (links.0, e x x_in ∙ links.1 ∙ sym (e p p_in), Links-same n adj inside f g x xs q x_in e links.2)

pub Links-append : (adj : ℕ → ℕ → Type 0) (f : ℕ → ℕ) (p : ℕ) (xs : List ℕ) (q : ℕ) (ys : List ℕ) (r : ℕ) →
    Links adj f p xs q → Links adj f q ys r → Links adj f p (xs ++ ys) r
Links-append adj f p [] q ys r first second = let P : ℕ → Type 0 = λ x. Links adj f x ys r in subst P (sym first) second
Links-append adj f p (x ∷ xs) q ys r first second = (first.0, first.1, Links-append adj f x xs q ys r first.2 second)

-- joined to one, which is joined to another
pub IsJoined-through : (adj : ℕ → ℕ → Type 0) (f : ℕ → ℕ) (p q r : ℕ) → IsJoined adj f p q → IsJoined adj f q r →
    IsJoined adj f p r
IsJoined-through adj f p q r first second =
    (first.0 ++ second.0, Links-append adj f p first.0 q second.0 r first.1 second.1)

pub data Side (n : ℕ) (t t' : Tables) (a b p : ℕ) : Type 0 where
  with_first : t.label p ≡ t.label a → t'.label p ≡ t.label a → Side n t t' a b p
  with_second : t.label p ≡ t.label b → t'.label p ≡ t.label a → Side n t t' a b p
  aside : t.label p ≢ t.label a → t.label p ≢ t.label b → t'.label p ≡ t.label p → Side n t t' a b p

pub side_of : (n : ℕ) (t t' : Tables) (a b p : ℕ) → IsJoin n t t' a b → IsStone n t p → Side n t t' a b p
side_of n t t' a b p j stone =
    elim (cases_eq (t.label p) (t.label b)) [
      | inl second ↦ with_second second (j.relabelled p stone second)
      | inr not_second ↦ elim (cases_eq (t.label p) (t.label a)) [
        | inl first ↦ with_first first (j.labels p stone not_second ∙ first)
        | inr not_first ↦ aside not_first not_second (j.labels p stone not_second)
      ]
    ]

module _ (n : ℕ) (adj : ℕ → ℕ → Type 0) (flip : (p q : ℕ) → adj p q → adj q p) (inside : (p q : ℕ) → adj p q → q < n)
    (t t' : Tables) (a b : ℕ) (tidy : IsTidy n adj t) (j : IsJoin n t t' a b) (beside : adj a b) where
  pub was : (p : ℕ) → IsStone n t' p → IsStone n t p
  was p stone = (stone.0, let e = j.colours p stone.0 in let s : 0 < t'.colour p = stone.1 in omega arith)

  pub now : (p : ℕ) → IsStone n t p → IsStone n t' p
  now p stone = (stone.0, let e = j.colours p stone.0 in let s : 0 < t.colour p = stone.1 in omega arith)

  pub splice : IsSplice t.next t'.next (t.size (t.label a)) a (t.size (t.label b)) b
  splice = record {
    first = tidy.ring a j.first;
    second = tidy.ring b j.second;
    disjoint = λ q on_a on_b. j.apart (sym (tidy.on_ring a q j.first on_a).1 ∙ (tidy.on_ring b q j.second on_b).1);
    at_first = j.first_next;
    at_second = j.second_next;
    others = λ q on. j.nexts q (elim on
        [ inl on_a ↦ (tidy.on_ring a q j.first on_a).0.0 | inr on_b ↦ (tidy.on_ring b q j.second on_b).0.0 ]);
  }

  -- the ring of a stone aside stays
  pub kept_ring : (p : ℕ) → IsStone n t p → t.label p ≢ t.label a → t.label p ≢ t.label b → (q : ℕ) →
      IsOnRing t.next (t.size (t.label p)) p q → t'.next q ≡ t.next q
  kept_ring p stone not_first not_second q on =
      let same : t.label q ≡ t.label p = (tidy.on_ring p q stone on).1 in
      j.nexts q (tidy.on_ring p q stone on).0.0 (λ e. not_first (sym same ∙ ap t.label e))
      (λ e. not_second (sym same ∙ ap t.label e))

  abbrev whole : ℕ
  whole = t.size (t.label b) + t.size (t.label a)

  -- a stone of either chain is on the new ring from a
  pub on_whole : (p : ℕ) → IsStone n t p → (t.label p ≡ t.label a) ⊎ (t.label p ≡ t.label b) →
      IsOnRing t'.next whole a p
  on_whole p stone which = elim which [
    | inl first ↦ IsOn-splice_first t.next t'.next (t.size (t.label a)) a (t.size (t.label b)) b p splice
        (tidy.ring_has a p j.first stone first)
    | inr second ↦ IsOn-splice_second t.next t'.next (t.size (t.label a)) a (t.size (t.label b)) b p splice
        (tidy.ring_has b p j.second stone second)
  ]

  pub whole_ring : IsRing t'.next whole a
  whole_ring = IsRing-splice t.next t'.next (t.size (t.label a)) a (t.size (t.label b)) b splice

  -- what stands on the new ring has the new label
  pub whole_is : (q : ℕ) → IsOnRing t'.next whole a q → IsStone n t q × (t'.label q ≡ t.label a)
  whole_is q on = elim (IsOn-splice t.next t'.next (t.size (t.label a)) a (t.size (t.label b)) b q splice on) [
    | inl first ↦ let s = tidy.on_ring a q j.first first in (s.0, j.labels q s.0 (λ e. j.apart (sym s.1 ∙ e)) ∙ s.1)
    | inr second ↦ let s = tidy.on_ring b q j.second second in (s.0, j.relabelled q s.0 s.1)
  ]

  pub ring' : (p : ℕ) → IsStone n t p → IsRing t'.next (t'.size (t'.label p)) p
  ring' p stone = elim (side_of n t t' a b p j stone) [
    | with_first was_first is ↦ let R : ℕ → Type 0 = λ k. IsRing t'.next k p in
        subst R (sym (ap t'.size is ∙ j.size_is))
        (IsRing-from t'.next whole a p whole_ring (on_whole p stone (inl was_first)))
    | with_second was_second is ↦ let R : ℕ → Type 0 = λ k. IsRing t'.next k p in
        subst R (sym (ap t'.size is ∙ j.size_is))
        (IsRing-from t'.next whole a p whole_ring (on_whole p stone (inr was_second)))
    | aside not_first not_second is ↦ let R : ℕ → Type 0 = λ k. IsRing t'.next k p in
        subst R (sym (ap t'.size is ∙ j.sizes (t.label p) (tidy.head_in p stone) not_first))
        (IsRing-kept t.next t'.next (t.size (t.label p)) p (tidy.ring p stone)
        (kept_ring p stone not_first not_second))
  ]

  pub on_ring' : (p q : ℕ) → IsStone n t p → IsOnRing t'.next (t'.size (t'.label p)) p q → IsStone n t q
      × (t'.label q ≡ t'.label p)
  on_ring' p q stone on = elim (side_of n t t' a b p j stone) [
    | with_first was_first is ↦ in_whole is (inl was_first)
    | with_second was_second is ↦ in_whole is (inr was_second)
    | aside not_first not_second is ↦
        let O : ℕ → Type 0 = λ k. IsOnRing t'.next k p q in
        let before : IsOnRing t.next (t.size (t.label p)) p q =
        IsOn-was t.next t'.next (t.size (t.label p)) p q (kept_ring p stone not_first not_second)
        (subst O (ap t'.size is ∙ j.sizes (t.label p) (tidy.head_in p stone) not_first) on) in
        let s = tidy.on_ring p q stone before in
        (s.0, j.labels q s.0 (λ e. not_second (sym s.1 ∙ e)) ∙ s.1 ∙ sym is)
  ]
    where
      in_whole : t'.label p ≡ t.label a → (t.label p ≡ t.label a) ⊎ (t.label p ≡ t.label b) → IsStone n t q
          × (t'.label q ≡ t'.label p)
      in_whole is which =
          let O : ℕ → Type 0 = λ k. IsOnRing t'.next k p q in
          let on_p : IsOnRing t'.next whole p q = subst O (ap t'.size is ∙ j.size_is) on in
          let p_on : IsOnRing t'.next whole a p = on_whole p stone which in
          let ring_p : IsRing t'.next whole p = IsRing-from t'.next whole a p whole_ring p_on in
          let a_on : IsOnRing t'.next whole p a =
          IsOn-from t'.next whole a p a whole_ring p_on (0, whole_ring.some, refl) in
          let s = whole_is q (IsOn-from t'.next whole p a q ring_p a_on on_p) in
          (s.0, s.1 ∙ sym is)

  pub ring_has' : (p q : ℕ) → IsStone n t p → IsStone n t q → t'.label q ≡ t'.label p →
      IsOnRing t'.next (t'.size (t'.label p)) p q
  ring_has' p q stone stone_q same = elim (side_of n t t' a b p j stone) [
    | with_first was_first is ↦ in_whole is (inl was_first)
    | with_second was_second is ↦ in_whole is (inr was_second)
    | aside not_first not_second is ↦
        let O : ℕ → Type 0 = λ k. IsOnRing t'.next k p q in
        let same_before : t.label q ≡ t.label p = elim (side_of n t t' a b q j stone_q) [
          | with_first q_first q_is ↦ absurd (not_first (sym is ∙ sym same ∙ q_is))
          | with_second q_second q_is ↦ absurd (not_first (sym is ∙ sym same ∙ q_is))
          | aside q_not_first q_not_second q_is ↦ sym q_is ∙ same ∙ is
        ] in
        subst O (sym (ap t'.size is ∙ j.sizes (t.label p) (tidy.head_in p stone) not_first))
        (IsOn-kept t.next t'.next (t.size (t.label p)) p q (kept_ring p stone not_first not_second)
        (tidy.ring_has p q stone stone_q same_before))
  ]
    where
      in_whole : t'.label p ≡ t.label a → (t.label p ≡ t.label a) ⊎ (t.label p ≡ t.label b) →
          IsOnRing t'.next (t'.size (t'.label p)) p q
      in_whole is which =
          let O : ℕ → Type 0 = λ k. IsOnRing t'.next k p q in
          let p_on : IsOnRing t'.next whole a p = on_whole p stone which in
          let q_which : (t.label q ≡ t.label a) ⊎ (t.label q ≡ t.label b) = elim (side_of n t t' a b q j stone_q) [
            | with_first q_first q_is ↦ inl q_first
            | with_second q_second q_is ↦ inr q_second
            | aside q_not_first q_not_second q_is ↦ absurd (q_not_first (sym q_is ∙ same ∙ is))
          ] in
          subst O (sym (ap t'.size is ∙ j.size_is))
          (IsOn-from t'.next whole a p q whole_ring p_on (on_whole q stone_q q_which))

  pub lib_is' : (p q : ℕ) → IsStone n t p → q < n → t'.lib (t'.label p) q ≡ 1 → (t'.colour q ≡ 0)
      × Touches n adj t' (t'.label p) q
  lib_is' p q stone q_in one = elim (side_of n t t' a b p j stone) [
    | with_first was_first is ↦ in_whole is
    | with_second was_second is ↦ in_whole is
    | aside not_first not_second is ↦
        let before = tidy.lib_is p q stone q_in
        (sym (j.libs (t.label p) q (tidy.head_in p stone) q_in not_first) ∙ ap (λ l. t'.lib l q) (sym is) ∙ one) in
        let s = before.1.0 in let s_is = before.1.2 in (
          j.colours q q_in ∙ before.0,
          (
            s,
            now s before.1.1,
            j.labels s before.1.1 (λ e. not_second (sym s_is ∙ e))
                ∙ s_is ∙ sym is,
            before.1.3,
          ),
        )
  ]
    where
      in_whole : t'.label p ≡ t.label a → (t'.colour q ≡ 0) × Touches n adj t' (t'.label p) q
      in_whole is = elim (j.lib_of_either q q_in (ap (λ l. t'.lib l q) (sym is) ∙ one)) [
        | inl first ↦
            let before = tidy.lib_is a q j.first q_in first in
            let s = before.1.0 in let s_is = before.1.2 in (
              j.colours q q_in ∙ before.0,
              (
                s,
                now s before.1.1,
                j.labels s before.1.1 (λ e. j.apart (sym s_is ∙ e))
                    ∙ s_is ∙ sym is,
                before.1.3,
              ),
            )
        | inr second ↦
            let before = tidy.lib_is b q j.second q_in second in
            let s = before.1.0 in (
              j.colours q q_in ∙ before.0,
              (
                s,
                now s before.1.1,
                j.relabelled s before.1.1 before.1.2 ∙ sym is,
                before.1.3,
              ),
            )
      ]

  pub has_lib' : (p q : ℕ) → IsStone n t p → q < n → t'.colour q ≡ 0 → Touches n adj t' (t'.label p) q →
      t'.lib (t'.label p) q ≡ 1
  has_lib' p q stone q_in empty touch = elim (side_of n t t' a b s j s_stone) [
    | with_first s_first s_is ↦ ap (λ l. t'.lib l q) (sym touch.2 ∙ s_is)
        ∙ j.lib_of_first q q_in (tidy.has_lib a q j.first q_in empty_before (s, s_stone, s_first, touch.3))
    | with_second s_second s_is ↦ ap (λ l. t'.lib l q) (sym touch.2 ∙ s_is)
        ∙ j.lib_of_second q q_in (tidy.has_lib b q j.second q_in empty_before (s, s_stone, s_second, touch.3))
    | aside not_first not_second s_is ↦ ap (λ l. t'.lib l q) (sym touch.2 ∙ s_is)
        ∙ j.libs (t.label s) q (tidy.head_in s s_stone) q_in not_first
        ∙ tidy.has_lib s q s_stone q_in empty_before (s, s_stone, refl, touch.3)
  ]
    where
      s : ℕ
      s = touch.0

      s_stone : IsStone n t s
      s_stone = was s touch.1

      empty_before : t.colour q ≡ 0
      empty_before = sym (j.colours q q_in) ∙ empty

  -- the two stones at which the chains meet
  pub joined_pair : IsJoined adj t.colour a b
  joined_pair = (b ∷ [], (beside, sym j.same, refl))

  pub joined_back : IsJoined adj t.colour b a
  joined_back = (a ∷ [], (flip a b beside, j.same, refl))

  pub joined' : (p q : ℕ) → IsStone n t p → IsStone n t q → t'.label p ≡ t'.label q → IsJoined adj t.colour p q
  joined' p q stone stone_q same = elim (side_of n t t' a b p j stone) [
    | with_first p_first p_is ↦ elim (side_of n t t' a b q j stone_q) [
      | with_first q_first q_is ↦ tidy.joined p q stone stone_q (p_first ∙ sym q_first)
      | with_second q_second q_is ↦ IsJoined-through adj t.colour p a q (tidy.joined p a stone j.first p_first)
          (IsJoined-through adj t.colour a b q joined_pair (tidy.joined b q j.second stone_q (sym q_second)))
      | aside q_not_first q_not_second q_is ↦ absurd (q_not_first (sym q_is ∙ sym same ∙ p_is))
    ]
    | with_second p_second p_is ↦ elim (side_of n t t' a b q j stone_q) [
      | with_first q_first q_is ↦ IsJoined-through adj t.colour p b q (tidy.joined p b stone j.second p_second)
          (IsJoined-through adj t.colour b a q joined_back (tidy.joined a q j.first stone_q (sym q_first)))
      | with_second q_second q_is ↦ tidy.joined p q stone stone_q (p_second ∙ sym q_second)
      | aside q_not_first q_not_second q_is ↦ absurd (q_not_first (sym q_is ∙ sym same ∙ p_is))
    ]
    | aside p_not_first p_not_second p_is ↦ elim (side_of n t t' a b q j stone_q) [
      | with_first q_first q_is ↦ absurd (p_not_first (sym p_is ∙ same ∙ q_is))
      | with_second q_second q_is ↦ absurd (p_not_first (sym p_is ∙ same ∙ q_is))
      | aside q_not_first q_not_second q_is ↦ tidy.joined p q stone stone_q (sym p_is ∙ same ∙ q_is)
    ]
  ]

  -- a label that stands on the board after the join stood there before
  pub head' : (p : ℕ) → IsStone n t p → (t'.label p < n) × (t'.colour (t'.label p) ≡ t'.colour p)
      × (t'.label (t'.label p) ≡ t'.label p)
  head' p stone = elim (side_of n t t' a b p j stone) [
    | with_first p_first is ↦ at_first is
        (sym (tidy.head_colour p stone) ∙ ap t.colour p_first ∙ tidy.head_colour a j.first)
    | with_second p_second is ↦ at_first is
        (sym (tidy.head_colour p stone) ∙ ap t.colour p_second ∙ tidy.head_colour b j.second ∙ sym j.same)
    | aside not_first not_second is ↦
        let l = t.label p in
        let l_in : l < n = tidy.head_in p stone in
        let l_colour : t.colour l ≡ t.colour p = tidy.head_colour p stone in
        let l_stone : IsStone n t l = (l_in, let c : 0 < t.colour p = stone.1 in omega arith) in
        let L : ℕ → Type 0 = λ k. (k < n) × (t'.colour k ≡ t'.colour p) × (t'.label k ≡ k) in
        subst L (sym is) (
          l_in,
          j.colours l l_in ∙ l_colour ∙ sym (j.colours p stone.0),
          j.labels l l_stone (λ e. not_second (sym (tidy.head_label p stone) ∙ e)) ∙ tidy.head_label p stone,
        )
  ]
    where
      at_first : t'.label p ≡ t.label a → t.colour p ≡ t.colour a → (t'.label p < n)
          × (t'.colour (t'.label p) ≡ t'.colour p) × (t'.label (t'.label p) ≡ t'.label p)
      at_first is colour_is =
          let l = t.label a in
          let l_in : l < n = tidy.head_in a j.first in
          let l_colour : t.colour l ≡ t.colour a = tidy.head_colour a j.first in
          let l_stone : IsStone n t l = (l_in, let c : 0 < t.colour a = j.first.1 in omega arith) in
          let L : ℕ → Type 0 = λ k. (k < n) × (t'.colour k ≡ t'.colour p) × (t'.label k ≡ k) in
          subst L (sym is) (
            l_in,
            j.colours l l_in ∙ l_colour ∙ sym colour_is ∙ sym (j.colours p stone.0),
            j.labels l l_stone (λ e. j.apart (sym (tidy.head_label a j.first) ∙ e)) ∙ tidy.head_label a j.first,
          )

  -- a join keeps the tables together
  pub IsTidy-join : IsTidy n adj t'
  IsTidy-join = record {
    head_in = λ p stone. (head' p (was p stone)).0;
    head_colour = λ p stone. (head' p (was p stone)).1;
    head_label = λ p stone. (head' p (was p stone)).2;
    ring = λ p stone. ring' p (was p stone);
    on_ring = λ p q stone on. let s = on_ring' p q (was p stone) on in (now q s.0, s.1);
    ring_has = λ p q stone stone_q same. ring_has' p q (was p stone) (was q stone_q) same;
    lib_is = λ p q stone q_in one. lib_is' p q (was p stone) q_in one;
    has_lib = λ p q stone q_in empty touch. has_lib' p q (was p stone) q_in empty touch;
    joined = λ p q stone stone_q same. let via = joined' p q (was p stone) (was q stone_q) same in
        (via.0, Links-same n adj inside t.colour t'.colour p via.0 q stone.0 j.colours via.1);
  }
