-- A play over the tables: the stone placed and joined, the chains beside it captured, and its own taken off.
use Rattle.std.proofs.Common.{ℕ, zero, suc, ◌<◌, ◌≡◌, ◌≢◌, ◌⊎◌, ◌↔◌, inl, inr, refl, sym, ap, ◌∙◌, arith, List, length, slice_index}
use Rattle.std.proofs.lemmas.Bool.{cases_lt, cases_eq}
use Rattle.go_chains.specs.inner.Tables.{Tables, IsDead, IsStone, IsTidy, AreChainsWhole, IsWholeBut}
use Rattle.go_chains.specs.inner.Steps.{IsCapturing, IsCleared, IsConnectedTo, IsPlaced}
use Rattle.go_chains.proofs.tables.Capturing.{IsCleared-captured, beside_or_alive, own_dead}
use Rattle.go_chains.proofs.tables.Connecting.{IsWhole-connected}

-- a label has a liberty, or it has none
pub dead_or_alive : (n : ℕ) (t : Tables) (l : ℕ) → ((x : ℕ) × (x < n) × (t.lib l x ≡ 1)) ⊎ IsDead n t l
dead_or_alive zero t l = inr (λ x below one. absurd (omega arith))
dead_or_alive (suc n) t l = elim (cases_eq (t.lib l n) 1) [
  | inl one ↦ inl (n, omega arith, one)
  | inr none ↦ elim (dead_or_alive n t l) [
    | inl alive ↦ inl (alive.0, (let h : alive.0 < n = alive.1 in omega arith), alive.2)
    | inr dead ↦ inr (λ x below one. elim (cases_lt x n) [
      | inl before ↦ dead x before one
      | inr last ↦ none (ap (t.lib l) (let e : n ≡ x = omega arith in e) ∙ one)
    ])
  ]
]

-- the stone is placed, and joined to its chains
module _ (n : ℕ) (adj : ℕ → ℕ → Type 0) (flip : (p q : ℕ) → adj p q → adj q p) (t t1 t2 : Tables) (p c o : ℕ)
    (beside : List ℕ)
    (whole : AreChainsWhole n adj t) (two : (q : ℕ) → IsStone n t q → (t.colour q ≡ o) ⊎ (t.colour q ≡ c))
    (near : (q : ℕ) → adj p q → (i : ℕ) × (i < length beside) × (slice_index beside i ≡ q))
    (placed : IsPlaced n adj t t1 p c) (joined : IsConnectedTo n t1 t2 p beside (length beside)) where
  was : (q : ℕ) → q ≢ p → IsStone n t1 q → IsStone n t q
  was q off stone = (stone.0, let e = placed.colours q stone.0 off in let h : 0 < t1.colour q = stone.1 in omega arith)

  whole_but : IsWholeBut n adj t1 p
  whole_but x y sx sy x_off y_off beside_x same =
      placed.labels x sx.0 x_off
      ∙ whole x y (was x x_off sx) (was y y_off sy) beside_x
      (sym (placed.colours x sx.0 x_off) ∙ same ∙ placed.colours y sy.0 y_off)
      ∙ sym (placed.labels y sy.0 y_off)

  pub whole_joined : AreChainsWhole n adj t2
  whole_joined = IsWhole-connected n adj flip t1 t2 p beside whole_but near joined

  pub colours_joined : (q : ℕ) → q < n → q ≢ p → t2.colour q ≡ t.colour q
  colours_joined q q_in off = joined.colours q q_in ∙ placed.colours q q_in off

  pub placed_joined : t2.colour p ≡ c
  placed_joined = joined.colours p placed.within ∙ placed.colour_is

  pub two_joined : (q : ℕ) → IsStone n t2 q → (t2.colour q ≡ o) ⊎ (t2.colour q ≡ c)
  two_joined q stone = elim (cases_eq q p) [
    | inl at ↦ inr (ap t2.colour at ∙ placed_joined)
    | inr off ↦
        let same = colours_joined q stone.0 off in
        elim (two q (stone.0, (let h : 0 < t2.colour q = stone.1 in omega arith)))
        [ inl is ↦ inl (same ∙ is) | inr is ↦ inr (same ∙ is) ]
  ]

-- and what has no liberty then is taken off, the other colour first
module _ (n : ℕ) (adj : ℕ → ℕ → Type 0) (flip : (p q : ℕ) → adj p q → adj q p) (inside : (p q : ℕ) → adj p q → q < n)
    (t t2 t3 t4 : Tables) (p c o : ℕ)
    (own_some : 0 < c) (other_some : 0 < o) (differ : o ≢ c) (p_in : p < n) (empty : t.colour p ≡ 0)
    (tidy : IsTidy n adj t) (alive : (q : ℕ) → IsStone n t q → (x : ℕ) × (x < n) × (t.lib (t.label q) x ≡ 1))
    (tidy2 : IsTidy n adj t2) (whole2 : AreChainsWhole n adj t2)
    (colours2 : (q : ℕ) → q < n → q ≢ p → t2.colour q ≡ t.colour q) (placed2 : t2.colour p ≡ c)
    (two2 : (q : ℕ) → IsStone n t2 q → (t2.colour q ≡ o) ⊎ (t2.colour q ≡ c))
    (captured : IsCapturing n adj t2 t3 o)
    (gone : (s : ℕ) → adj p s → t2.colour s ≡ o → IsDead n t2 (t2.label s) → t3.colour s ≡ 0)
    (cleared : IsCapturing n adj t3 t4 c)
    (own_gone : t3.colour p ≡ c → IsDead n t3 (t3.label p) → t4.colour p ≡ 0) where
  -- a chain of the other colour without a liberty has a stone beside the placed one
  beside_placed : (q : ℕ) → IsStone n t2 q → t2.colour q ≡ o → IsDead n t2 (t2.label q) → (s : ℕ) × IsStone n t2 s
      × (t2.label s ≡ t2.label q) × adj s p
  beside_placed q stone is dead =
      let off : q ≢ p = λ at. differ (sym is ∙ ap t2.colour at ∙ placed2) in
      let before : IsStone n t q = (
        stone.0,
        (let e = colours2 q stone.0 off in let h : 0 < t2.colour q = stone.1 in omega arith),
      ) in
      elim (beside_or_alive n adj inside t t2 p tidy alive tidy2 whole2 empty colours2 q before) [
        | inl lib ↦ absurd (dead lib.0 lib.1 lib.2)
        | inr at ↦ at
      ]

  pub cleared_other : IsCleared n adj t2.colour t3.colour o
  cleared_other = IsCleared-captured n adj inside (λ s. adj s p) t2 t3 o other_some tidy2 whole2 captured beside_placed
      (λ s stone is at dead. gone s (flip s p at) is dead)

  pub placed3 : t3.colour p ≡ c
  placed3 = elim (captured.colours p p_in)
      [ inl same ↦ same ∙ placed2 | inr taken ↦ absurd (differ (sym taken.1 ∙ placed2)) ]

  own_label : (q : ℕ) → IsStone n t3 q → t3.colour q ≡ c → IsDead n t3 (t3.label q) → t3.label q ≡ t3.label p
  own_label = own_dead n adj inside t t2 t3 p c o tidy alive tidy2 whole2 captured (λ e. differ (sym e)) own_some p_in
      empty placed2 colours2

  p_stone : IsStone n t3 p
  p_stone = (p_in, let e = placed3 in omega arith)

  pub cleared_own : IsCleared n adj t3.colour t4.colour c
  cleared_own = IsCleared-captured n adj inside (λ s. s ≡ p) t3 t4 c own_some captured.tidy captured.whole cleared
      (λ q stone is dead. (p, p_stone, sym (own_label q stone is dead), refl))
      (λ s stone is at dead. ap t4.colour at
      ∙ own_gone placed3 (λ x x_in one. dead x x_in (ap (λ k. t3.lib (t3.label k) x) at ∙ one)))

  -- what stands in the end stood before the own chain's turn, with a label as dead
  before_own : (q : ℕ) → IsStone n t4 q → IsDead n t4 (t4.label q) → IsStone n t3 q × IsDead n t3 (t3.label q)
  before_own q stone dead =
      let same : t4.colour q ≡ t3.colour q =
      elim (cleared.colours q stone.0) [
        | inl is ↦ is
        | inr taken ↦ absurd
            (let h : 0 < t4.colour q = stone.1 in let z : t4.colour q ≡ 0 = taken.0 in omega arith)
      ] in (
        (stone.0, (let h : 0 < t4.colour q = stone.1 in omega arith)),
        λ x x_in one. dead x x_in (ap (λ l. t4.lib l x) (cleared.labels q stone.0)
            ∙ cleared.lib_kept q x stone x_in one),
      )

  before_captures : (q : ℕ) → IsStone n t3 q → IsDead n t3 (t3.label q) → (t3.colour q ≡ t2.colour q) × IsStone n t2 q
      × IsDead n t2 (t2.label q)
  before_captures q stone dead =
      let same : t3.colour q ≡ t2.colour q =
      elim (captured.colours q stone.0) [
        | inl is ↦ is
        | inr taken ↦ absurd
            (let h : 0 < t3.colour q = stone.1 in let z : t3.colour q ≡ 0 = taken.0 in omega arith)
      ] in (
        same,
        (stone.0, (let h : 0 < t3.colour q = stone.1 in omega arith)),
        λ x x_in one. dead x x_in (ap (λ l. t3.lib l x) (captured.labels q stone.0)
            ∙ captured.lib_kept q x stone x_in one),
      )

  no_dead : (q : ℕ) → IsStone n t4 q → IsDead n t4 (t4.label q) → ⊥
  no_dead q stone dead =
      let third = before_own q stone dead in
      let second = before_captures q third.0 third.1 in
      elim (two2 q second.1) [
        | inl other ↦
            let s = beside_placed q second.1 other second.2 in
            let s_other : t2.colour s.0 ≡ o = sym (tidy2.head_colour s.0 s.1) ∙ ap t2.colour s.2
            ∙ tidy2.head_colour q second.1 ∙ other in
            let s_dead : IsDead n t2 (t2.label s.0) = λ x x_in one.
            second.2 x x_in (ap (λ l. t2.lib l x) (sym s.2) ∙ one) in
            let taken : t3.colour q ≡ 0 = captured.together s.0 q s.1 second.1 s.2
            (gone s.0 (flip s.0 p s.3) s_other s_dead) in
            let h : 0 < t3.colour q = third.0.1 in omega arith
        | inr own ↦
            let label = own_label q third.0 (second.0 ∙ own) third.1 in
            let p_gone = own_gone placed3 (λ x x_in one. third.1 x x_in (ap (λ l. t3.lib l x) label ∙ one)) in
            let taken : t4.colour q ≡ 0 = cleared.together p q p_stone third.0 (sym label) p_gone in
            let h : 0 < t4.colour q = stone.1 in omega arith
      ]

  pub living : (q : ℕ) → IsStone n t4 q → (x : ℕ) × (x < n) × (t4.lib (t4.label q) x ≡ 1)
  living q stone = elim (dead_or_alive n t4 (t4.label q)) [ inl lib ↦ lib | inr dead ↦ absurd (no_dead q stone dead) ]

  -- the own colour isn't touched by the captures, nor the other by what comes after them
  pub own_stays : (q : ℕ) → q < n → (t3.colour q ≡ c) ↔ (t2.colour q ≡ c)
  own_stays q q_in = elim (captured.colours q q_in) [
    | inl same ↦ (λ is. sym same ∙ is, λ is. same ∙ is)
    | inr taken ↦ (
      λ is. absurd (let z : t3.colour q ≡ 0 = taken.0 in omega arith),
      λ is.
          absurd (differ (sym taken.1 ∙ is)),
    )
  ]

  pub other_stays : (q : ℕ) → q < n → (t4.colour q ≡ o) ↔ (t3.colour q ≡ o)
  other_stays q q_in = elim (cleared.colours q q_in) [
    | inl same ↦ (λ is. sym same ∙ is, λ is. same ∙ is)
    | inr taken ↦ (
      λ is. absurd (let z : t4.colour q ≡ 0 = taken.0 in omega arith),
      λ is.
          absurd (differ (sym is ∙ taken.1)),
    )
  ]
