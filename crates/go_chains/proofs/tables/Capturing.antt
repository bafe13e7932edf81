-- Chains without a liberty that are taken off, one after another.
use Rattle.std.proofs.Common.{ℕ, ◌<◌, ◌≡◌, ◌≢◌, ◌⊎◌, inl, inr, refl, sym, ap, ◌∙◌, subst, arith}
use Rattle.std.proofs.lemmas.Bool.{cases_eq}
use Rattle.go_chains.specs.inner.Tables.{Tables, IsStone, IsTidy, AreChainsWhole, IsDead}
use Rattle.go_chains.specs.inner.Steps.{IsRemoved, IsCapturing, IsCleared}
use Rattle.go_chains.proofs.tables.Occupying.{Links-stones}
use Rattle.go_chains.proofs.tables.Whole.{label-linked, lib-reaches, reaches-lib}
use Rattle.go_chains.proofs.tables.Removing.{IsTidy-removed, IsWhole-removed, was}

-- only a stone's placement at p can take the last liberty of a chain, and of no chain that is not beside p
pub beside_or_alive : (n : ℕ) (adj : ℕ → ℕ → Type 0) (inside : (p q : ℕ) → adj p q → q < n) (t t' : Tables) (p : ℕ) →
    IsTidy n adj t
    → ((q : ℕ) → IsStone n t q → (x : ℕ) × (x < n) × (t.lib (t.label q) x ≡ 1)) → IsTidy n adj t' →
    AreChainsWhole n adj t'
    → t.colour p ≡ 0 → ((q : ℕ) → q < n → q ≢ p → t'.colour q ≡ t.colour q) → (q : ℕ) → IsStone n t q
    → ((x : ℕ) × (x < n) × (t'.lib (t'.label q) x ≡ 1))
    ⊎ ((s : ℕ) × IsStone n t' s × (t'.label s ≡ t'.label q) × adj s p)
beside_or_alive n adj inside t t' p tidy alive tidy' whole' empty colours q stone =
    let l = alive q stone in
    let x = l.0 in
    let is = tidy.lib_is q x stone l.1 l.2 in
    let s = is.1.0 in
    let s_stone : IsStone n t s = is.1.1 in
    let same_at : (y : ℕ) → y < n → 0 < t.colour y → t'.colour y ≡ t.colour y = λ y y_in some.
    colours y y_in (λ e. (let z : t.colour y ≡ 0 = ap t.colour e ∙ empty in omega arith)) in
    let now : (y : ℕ) → IsStone n t y → IsStone n t' y = λ y y_stone.
    (y_stone.0, let e = same_at y y_stone.0 y_stone.1 in let h : 0 < t.colour y = y_stone.1 in omega arith) in
    let via = tidy.joined q s stone s_stone (sym is.1.2) in
    let linked = label-linked n adj inside t' whole' q via.0 s (now q stone)
    (Links-stones n adj inside t.colour t'.colour q via.0 s stone.0 stone.1 same_at via.1) in
    elim (cases_eq x p) [
      | inl at ↦ inr (let A : ℕ → Type 0 = λ y. adj s y in (s, now s s_stone, sym linked.1, subst A at is.1.3))
      | inr off ↦ inl (
        x,
        l.1,
        tidy'.has_lib q x (now q stone) l.1 (colours x l.1 off ∙ is.0)
            (s, now s s_stone, sym linked.1, is.1.3),
      )
    ]

-- no chain is taken off yet
pub IsCapturing_none : (n : ℕ) (adj : ℕ → ℕ → Type 0) (t : Tables) (o : ℕ) → IsTidy n adj t → AreChainsWhole n adj t →
    IsCapturing n adj t t o
IsCapturing_none n adj t o tidy whole = record {
  tidy = tidy;
  whole = whole;
  labels = λ x x_in. refl;
  colours = λ x x_in. inl refl;
  together = λ x y x_stone y_stone same none. absurd (let h : 0 < t.colour x = x_stone.1 in omega arith);
  lib_kept = λ q x stone x_in one. one;
  lib_was = λ q x stone is x_in one. one;
}

-- one chain more that has no liberty is taken off
pub IsCapturing_more : (n : ℕ) (adj : ℕ → ℕ → Type 0) (flip : (p q : ℕ) → adj p q → adj q p)
    (inside : (p q : ℕ) → adj p q → q < n) (t mid t' : Tables) (o r : ℕ)
    → IsTidy n adj t → IsCapturing n adj t mid o → IsRemoved n adj mid t' r → mid.colour r ≡ o → 0 < o →
    IsDead n mid (mid.label r) → IsCapturing n adj t t' o
IsCapturing_more n adj flip inside t mid t' o r tidy c m r_colour o_some dead = record {
  tidy = IsTidy-removed n adj flip inside mid t' r c.tidy c.whole m;
  whole = IsWhole-removed n adj flip inside mid t' r c.tidy c.whole m;
  labels = λ x x_in. m.labels x x_in ∙ c.labels x x_in;
  colours = λ x x_in. elim (c.colours x x_in) [
    | inl same ↦ elim (cases_eq (mid.colour x) 0) [
      | inl none ↦ inl (m.colours x x_in (λ s. absurd (let h : 0 < mid.colour x = s.1 in omega arith)) ∙ same)
      | inr some ↦
          let x_stone : IsStone n mid x = (x_in, omega arith) in
          elim (cases_eq (mid.label x) (mid.label r)) [
            | inl with ↦
                let x_colour : mid.colour x ≡ o = sym (c.tidy.head_colour x x_stone) ∙ ap mid.colour with
                ∙ c.tidy.head_colour r m.stone ∙ r_colour in
                inr (
                  m.gone x x_stone with,
                  sym same ∙ x_colour,
                  λ y y_in one. dead y y_in
                      (ap (λ l. mid.lib l y) (sym with ∙ c.labels x x_in) ∙ c.lib_kept x y x_stone y_in one),
                )
            | inr aside ↦ inl (m.colours x x_in (λ _. aside) ∙ same)
          ]
    ]
    | inr gone ↦ inr (
      m.colours x x_in
          (λ s. absurd (let h : 0 < mid.colour x = s.1 in let z : mid.colour x ≡ 0 = gone.0 in omega arith)) ∙ gone.0,
      gone.1,
      gone.2,
    )
  ];
  together = λ x y x_stone y_stone same none. elim (cases_eq (mid.colour x) 0) [
    | inl before ↦
        let y_gone : mid.colour y ≡ 0 = c.together x y x_stone y_stone same before in
        m.colours y y_stone.0 (λ s. absurd (let h : 0 < mid.colour y = s.1 in omega arith)) ∙ y_gone
    | inr some ↦
        let x_mid : IsStone n mid x = (x_stone.0, omega arith) in
        elim (cases_eq (mid.label x) (mid.label r)) [
          | inl with ↦ elim (cases_eq (mid.colour y) 0) [
            | inl y_gone ↦ m.colours y y_stone.0 (λ s. absurd (let h : 0 < mid.colour y = s.1 in omega arith)) ∙ y_gone
            | inr y_some ↦ m.gone y (y_stone.0, omega arith)
                (c.labels y y_stone.0 ∙ sym same ∙ sym (c.labels x x_stone.0) ∙ with)
          ]
          | inr aside ↦ absurd (some (sym (m.colours x x_stone.0 (λ _. aside)) ∙ none))
        ]
  ];
  lib_kept = λ q x stone x_in one.
      let s = was n adj flip inside mid t' r c.tidy c.whole m q stone in
      let e = c.labels q stone.0 in
      ap (λ l. t'.lib l x) (sym e) ∙ m.lib_kept q x s.0 s.1 x_in
      (ap (λ l. mid.lib l x) e ∙ c.lib_kept q x s.0 x_in one);
  lib_was = λ q x stone is x_in one.
      let s = was n adj flip inside mid t' r c.tidy c.whole m q stone in
      let e = c.labels q stone.0 in
      let q_colour : mid.colour q ≡ o = sym (m.colours q stone.0 (λ _. s.1)) ∙ is in
      elim (m.lib_was q x s.0 s.1 x_in (ap (λ l. t'.lib l x) e ∙ one)) [
        | inl before ↦ c.lib_was q x s.0 q_colour x_in (ap (λ l. mid.lib l x) (sym e) ∙ before)
        | inr given ↦
            let y = given.2.0 in
            let y_stone : IsStone n mid y = given.2.1 in
            let y_colour : mid.colour y ≡ o = sym (c.tidy.head_colour y y_stone) ∙ ap mid.colour given.2.2
            ∙ c.tidy.head_colour q s.0 ∙ q_colour in
            let x_colour : mid.colour x ≡ o = sym (c.tidy.head_colour x given.0) ∙ ap mid.colour given.1
            ∙ c.tidy.head_colour r m.stone ∙ r_colour in
            absurd (s.1 (sym given.2.2 ∙ c.whole y x y_stone given.0 given.2.3 (y_colour ∙ sym x_colour) ∙ given.1))
      ];
}

-- where every chain of colour o without a liberty has a marked stone, and every marked one of those is taken off, colour o is cleared
pub IsCleared-captured : (n : ℕ) (adj : ℕ → ℕ → Type 0) (inside : (p q : ℕ) → adj p q → q < n) (Marked : ℕ → Type 0)
    (t t' : Tables) (o : ℕ) → 0 < o → IsTidy n adj t → AreChainsWhole n adj t → IsCapturing n adj t t' o
    → ((q : ℕ) → IsStone n t q → t.colour q ≡ o → IsDead n t (t.label q) → (s : ℕ) × IsStone n t s
    × (t.label s ≡ t.label q) × Marked s)
    → ((s : ℕ) → IsStone n t s → t.colour s ≡ o → Marked s → IsDead n t (t.label s) → t'.colour s ≡ 0)
    → IsCleared n adj t.colour t'.colour o
IsCleared-captured n adj inside Marked t t' o o_some tidy whole c beside done = record {
  alive = λ q q_in is reach.
      let stone : IsStone n t q = (q_in, omega arith) in
      let l = lib-reaches n adj inside t tidy whole q stone reach in
      elim (c.colours q q_in) [ inl same ↦ same | inr gone ↦ absurd (gone.2 l.0 l.1 l.2) ];
  dead = λ q q_in is never.
      let stone : IsStone n t q = (q_in, omega arith) in
      let dead : IsDead n t (t.label q) = λ x x_in one. never (reaches-lib n adj t tidy q stone x x_in one) in
      let s = beside q stone is dead in
      let s_colour : t.colour s.0 ≡ o = sym (tidy.head_colour s.0 s.1) ∙ ap t.colour s.2 ∙ tidy.head_colour q stone
      ∙ is in
      let s_dead : IsDead n t (t.label s.0) = λ x x_in one. dead x x_in (ap (λ l. t.lib l x) (sym s.2) ∙ one) in
      c.together s.0 q s.1 stone s.2 (done s.0 s.1 s_colour s.3 s_dead);
  others = λ q q_in is. elim (c.colours q q_in) [ inl same ↦ same | inr gone ↦ absurd (is gone.1) ];
}

-- after the captures a chain of the playing colour without a liberty is the one of the placed stone
pub own_dead : (n : ℕ) (adj : ℕ → ℕ → Type 0) (inside : (p q : ℕ) → adj p q → q < n) (t t2 t3 : Tables) (p c o : ℕ) →
    IsTidy n adj t
    → ((q : ℕ) → IsStone n t q → (x : ℕ) × (x < n) × (t.lib (t.label q) x ≡ 1)) → IsTidy n adj t2 →
    AreChainsWhole n adj t2 → IsCapturing n adj t2 t3 o → c ≢ o → 0 < c → p < n
    → t.colour p ≡ 0 → t2.colour p ≡ c → ((q : ℕ) → q < n → q ≢ p → t2.colour q ≡ t.colour q)
    → (q : ℕ) → IsStone n t3 q → t3.colour q ≡ c → IsDead n t3 (t3.label q) → t3.label q ≡ t3.label p
own_dead n adj inside t t2 t3 p c o tidy alive tidy2 whole2 cap apart some p_in empty placed colours q stone is dead =
    let q_in : q < n = stone.0 in
    let q_colour2 : t2.colour q ≡ c =
    elim (cap.colours q q_in) [
      | inl same ↦ sym same ∙ is
      | inr gone ↦
          absurd (let z : t3.colour q ≡ 0 = gone.0 in omega arith)
    ] in
    let q_stone2 : IsStone n t2 q = (q_in, omega arith) in
    let p_stone2 : IsStone n t2 p = (p_in, omega arith) in
    elim (cases_eq q p) [
      | inl at ↦ ap t3.label at
      | inr off ↦ elim (beside_or_alive n adj inside t t2 p tidy alive tidy2 whole2 empty colours q
          (q_in, let e = colours q q_in off in omega arith)) [
            | inl lib ↦ absurd (dead lib.0 lib.1
                (ap (λ l. t3.lib l lib.0) (cap.labels q q_in) ∙ cap.lib_kept q lib.0 stone lib.1 lib.2))
            | inr near ↦
                let s = near.0 in
                let s_colour : t2.colour s ≡ c = sym (tidy2.head_colour s near.1) ∙ ap t2.colour near.2
                ∙ tidy2.head_colour q q_stone2 ∙ q_colour2 in
                cap.labels q q_in ∙ sym near.2 ∙ whole2 s p near.1 p_stone2 near.3 (s_colour ∙ sym placed)
                ∙ sym (cap.labels p p_in)
          ]
    ]
