-- Which stones a capture took, counted by lists of them.
use Rattle.std.proofs.Common.{ℕ, ◌+◌, ◌-◌, ◌<◌, ◌≡◌, ◌≢◌, ◌⊎◌, inl, inr, sym, ap, ◌∙◌, arith, List, ◌++◌, length, get_or, length-append}
use Rattle.std.specs.Prelude.{AllPairs, Contains}
use Rattle.std.proofs.lemmas.Bool.{cases_lt, cases_eq}
use Rattle.std.proofs.Math.Seq.{get_or-append_right}
use Rattle.std.proofs.lemmas.List.{get_or_append_left, get_or_default}
use Rattle.std.proofs.lemmas.List.Elements.{Contains-append_cases, Contains-append_left, Contains-append_right}
use Rattle.go_chains.specs.Rings.{ring_from}
use Rattle.go_chains.specs.inner.Tables.{IsDead, IsStone, IsTidy, Tables}
use Rattle.go_chains.specs.inner.Steps.{CountsTaken, IsCapturing, IsRemoved}
use Rattle.go_chains.proofs.rules.Sound.{Contains-IsOn, IsOn-Contains, length-ring_from, ring_from-apart}

-- two lists with no element twice and none in common
pub apart-append : (xs ys : List ℕ) → AllPairs (λ x y. x ≢ y) xs → AllPairs (λ x y. x ≢ y) ys →
    ((x : ℕ) → Contains xs x → Contains ys x → ⊥) → AllPairs (λ x y. x ≢ y) (xs ++ ys)
apart-append xs ys first second differ i j d less below same =
    let size : length (xs ++ ys) ≡ length xs + length ys = length-append xs ys in
    elim (cases_lt j (length xs)) [
      | inl low ↦ first i j d less low
          (sym (get_or_append_left xs ys d i (omega arith)) ∙ same ∙ get_or_append_left xs ys d j low)
      | inr high ↦
          let there = get_or-append_right xs ys j d high in
          elim (cases_lt i (length xs)) [
            | inl low ↦
                let x = get_or xs i d in
                let k = j - length xs in
                differ x (i, low, get_or_default xs i x d low) (
                  k,
                  omega arith,
                  get_or_default ys k x d (omega arith) ∙ sym there ∙ sym same
                      ∙ get_or_append_left xs ys d i low,
                )
            | inr high_i ↦ second (i - length xs) (j - length xs) d (omega arith) (omega arith)
                (sym (get_or-append_right xs ys i d high_i) ∙ same ∙ there)
          ]
    ]

-- the chain removed is the list of its ring
pub counts_ring : (n : ℕ) (adj : ℕ → ℕ → Type 0) (t t' : Tables) (r own : ℕ) → IsTidy n adj t → IsRemoved n adj t t' r →
    t.colour r ≡ own → 0 < own → CountsTaken n t t' own (t.size (t.label r))
counts_ring n adj t t' r own tidy m own_is some = (
  ring_from t.next size r,
  length-ring_from t.next size r,
  ring_from-apart t.next size r (tidy.ring r m.stone).apart,
  λ q. (
    λ has. (let on = tidy.on_ring r q m.stone (IsOn-Contains t.next size r q has) in (
      on.0.0,
      sym (tidy.head_colour q on.0) ∙ ap t.colour on.1 ∙ tidy.head_colour r m.stone ∙ own_is,
      λ is.
          (let z : t'.colour q ≡ 0 = m.gone q on.0 on.1 in omega arith),
    )),
    λ of. (let stone : IsStone n t q = (of.0, (let e : t.colour q ≡ own = of.1 in omega arith)) in
        elim (cases_eq (t.label q) (t.label r)) [
          | inl same ↦ Contains-IsOn t.next size r q (tidy.ring_has r q m.stone stone same)
          | inr aside ↦ absurd (of.2 (m.colours q of.0 (λ _. aside) ∙ of.1))
        ]),
  ),
)
  where
    size : ℕ
    size = t.size (t.label r)

-- what has the colour after a capture had it before
pub had : (n : ℕ) (adj : ℕ → ℕ → Type 0) (t t' : Tables) (own q : ℕ) → 0 < own → IsCapturing n adj t t' own → q < n →
    t'.colour q ≡ own → t.colour q ≡ own
had n adj t t' own q some c q_in is = elim (c.colours q q_in) [ inl same ↦ sym same ∙ is | inr gone ↦ gone.1 ]

-- one capture after another
pub counts_then : (n : ℕ) (adj : ℕ → ℕ → Type 0) (t mid t' : Tables) (own j k : ℕ) → 0 < own →
    IsCapturing n adj t mid own → IsCapturing n adj mid t' own
    → CountsTaken n t mid own j → CountsTaken n mid t' own k → CountsTaken n t t' own (j + k)
counts_then n adj t mid t' own j k some before after first second = (
  first.0 ++ second.0,
  length-append first.0 second.0 ∙ (let a : length first.0 ≡ j = first.1 in let b : length second.0 ≡ k = second.1 in
      omega arith),
  apart-append first.0 second.0 first.2 second.2
      (λ x in_first in_second. ((first.3 x).0 in_first).2 ((second.3 x).0 in_second).1),
  λ q. (
    λ has. elim (Contains-append_cases first.0 second.0 q has) [
      | inl in_first ↦ (let of = (first.3 q).0 in_first in
          (of.0, of.1, λ is. of.2 (had n adj mid t' own q some after of.0 is)))
      | inr in_second ↦ (let of = (second.3 q).0 in_second in (of.0, had n adj t mid own q some before of.0 of.1, of.2))
    ],
    λ of. elim (cases_eq (mid.colour q) own) [
      | inl still ↦ Contains-append_right first.0 second.0 q ((second.3 q).1 (of.0, still, of.2))
      | inr gone ↦ Contains-append_left first.0 second.0 q ((first.3 q).1 (of.0, of.1, gone))
    ],
  ),
)

-- a point emptied stays so
pub stays_empty : (n : ℕ) (adj : ℕ → ℕ → Type 0) (mid t' : Tables) (own q : ℕ) → IsCapturing n adj mid t' own → q < n →
    mid.colour q ≡ 0 → t'.colour q ≡ 0
stays_empty n adj mid t' own q after q_in none =
    elim (after.colours q q_in) [ inl same ↦ same ∙ none | inr gone ↦ gone.0 ]

-- a chain beside the point that had no liberty before the captures has none now, or is gone
pub still_dead : (n : ℕ) (adj : ℕ → ℕ → Type 0) (t mid t' : Tables) (own q : ℕ) → 0 < own →
    IsCapturing n adj t mid own → IsCapturing n adj mid t' own → q < n → t.colour q ≡ own → IsDead n t (t.label q)
    → (mid.colour q ≡ own → IsDead n mid (mid.label q) → t'.colour q ≡ 0) → t'.colour q ≡ 0
still_dead n adj t mid t' own q some before after q_in own_is dead done = elim (before.colours q q_in) [
  | inl same ↦ done (same ∙ own_is) (λ x x_in one. dead x x_in
      (before.lib_was q x (q_in, (let e = own_is in omega arith)) (same ∙ own_is) x_in
      (ap (λ l. mid.lib l x) (sym (before.labels q q_in)) ∙ one)))
  | inr gone ↦ stays_empty n adj mid t' own q after q_in gone.0
]

-- two colours, and no third after a capture
pub still_two : (n : ℕ) (adj : ℕ → ℕ → Type 0) (t t' : Tables) (own other : ℕ) → IsCapturing n adj t t' own →
    ((s : ℕ) → IsStone n t s → (t.colour s ≡ own) ⊎ (t.colour s ≡ other))
    → (s : ℕ) → IsStone n t' s → (t'.colour s ≡ own) ⊎ (t'.colour s ≡ other)
still_two n adj t t' own other c two s stone = elim (c.colours s stone.0) [
  | inl same ↦ elim (two s (stone.0, (let h : 0 < t'.colour s = stone.1 in omega arith)))
      [ inl is ↦ inl (same ∙ is) | inr is ↦ inr (same ∙ is) ]
  | inr gone ↦ absurd (let h : 0 < t'.colour s = stone.1 in let z : t'.colour s ≡ 0 = gone.0 in omega arith)
]
