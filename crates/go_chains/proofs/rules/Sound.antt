-- Sound cells and tidy tables are the same: what readers believe, and what the steps of a play keep.
use Rattle.std.specs.Prelude.{AllPairs, Contains, Some, None}
use Rattle.std.proofs.Common.{ℕ, ◌+◌, ◌*◌, ◌<◌, ◌≤◌, ◌≡◌, ◌≢◌, inl, inr, zero, suc, refl, sym, ap, ◌∙◌, subst, arith, List, [], ◌∷◌, ◌++◌, length, slice_index_or}
use Rattle.std.proofs.lemmas.Bool.{cases_lt}
use Rattle.std.proofs.lemmas.List.{get_or_past}
use Rattle.std.proofs.lemmas.List.FromFn.{get_or-map-range_with_len, length-map-range_with_len}
use Rattle.std.proofs.Math.Seq.{get_or-append_seam}
use Rattle.go_board.specs.declared.colour.Colour.{Colour}
use Rattle.go_board.specs.declared.colour.Colour.TheVariants.{Black, White}
use Rattle.go_board.specs.declared.size.TheConstants.{MAX_LINES}
use Rattle.go_board.specs.Colours.{Colouring, colour_at}
use Rattle.go_board.specs.Paths.{IsAdjacent, Joined, Leads}
use Rattle.go_board.specs.Packs.{colour_coded}
use Rattle.go_chains.specs.Rings.{ring_from}
use Rattle.go_chains.specs.inner.Rings.{steps, IsOnRing}
use Rattle.go_chains.specs.inner.Tables.{IsStone, Links, IsJoined, IsTidy, AreChainsWhole, tables_of}
use Rattle.go_chains.specs.Cells.{code_at, label_of, next_of, size_of, lib_of}
use Rattle.go_chains.specs.Sound.{AreSound, IsChainLiberty, IsKept}
use Rattle.go_chains.specs.Boards.{IsStoneOf, colouring_of}
use Rattle.go_chains.proofs.tables.Whole.{label-linked}

pub length-ring_from : (next : ℕ → ℕ) (n p : ℕ) → length (ring_from next n p) ≡ n
length-ring_from next zero p = refl
length-ring_from next (suc n) p = ap (λ k. suc k) (length-ring_from next n (next p))

-- one step first
pub steps-first : (next : ℕ → ℕ) (i p : ℕ) → steps next i (next p) ≡ steps next (suc i) p
steps-first next zero p = refl
steps-first next (suc i) p = ap next (steps-first next i p)

-- what stands at a place of the ring's list
pub ring_from-at : (next : ℕ → ℕ) (n p i d : ℕ) → i < n → slice_index_or (ring_from next n p) i d ≡ steps next i p
ring_from-at next zero p i d below = absurd (omega arith)
ring_from-at next (suc n) p zero d below = refl
ring_from-at next (suc n) p (suc i) d below = ring_from-at next n (next p) i d (omega arith) ∙ steps-first next i p

-- the list has no point twice exactly where the steps are apart
pub apart-ring_from : (next : ℕ → ℕ) (n p : ℕ) → AllPairs (λ x y. x ≢ y) (ring_from next n p) → (i j : ℕ) → i < n →
    j < n → steps next i p ≡ steps next j p → i ≡ j
apart-ring_from next n p pairs i j below_i below_j same =
    let size = length-ring_from next n p in
    elim (cases_lt i j) [
      | inl less ↦ absurd (pairs i j 0 less (omega arith)
          (ring_from-at next n p i 0 below_i ∙ same ∙ sym (ring_from-at next n p j 0 below_j)))
      | inr more ↦ elim (cases_lt j i) [
        | inl less ↦ absurd (pairs j i 0 less (omega arith)
            (ring_from-at next n p j 0 below_j ∙ sym same ∙ sym (ring_from-at next n p i 0 below_i)))
        | inr equal ↦ omega arith
      ]
    ]

pub ring_from-apart : (next : ℕ → ℕ) (n p : ℕ) → ((i j : ℕ) → i < n → j < n → steps next i p ≡ steps next j p → i ≡ j) →
    AllPairs (λ x y. x ≢ y) (ring_from next n p)
ring_from-apart next n p apart i j d less below same =
    let size = length-ring_from next n p in
    let e : i ≡ j = apart i j (omega arith) (omega arith)
    (sym (ring_from-at next n p i d (omega arith)) ∙ same ∙ ring_from-at next n p j d (omega arith)) in
    omega arith

-- the list has the points that the steps lead to
pub IsOn-Contains : (next : ℕ → ℕ) (n p q : ℕ) → Contains (ring_from next n p) q → IsOnRing next n p q
IsOn-Contains next n p q c =
    let size = length-ring_from next n p in
    let below : c.0 < length (ring_from next n p) = c.1 in
    (c.0, omega arith, sym (ring_from-at next n p c.0 q (omega arith)) ∙ c.2)

pub Contains-IsOn : (next : ℕ → ℕ) (n p q : ℕ) → IsOnRing next n p q → Contains (ring_from next n p) q
Contains-IsOn next n p q on =
    let size = length-ring_from next n p in
    let below : on.0 < n = on.1 in
    (on.0, omega arith, ring_from-at next n p on.0 q on.1 ∙ on.2)

-- one step more closes the list
pub ring_from-closed : (next : ℕ → ℕ) (n p q : ℕ) → steps next n p ≡ q → ring_from next (n + 1) p ≡ ring_from next n p
    ++ q ∷ []
ring_from-closed next zero p q is = ap (λ x. x ∷ []) is
ring_from-closed next (suc n) p q is = ap (λ k. ring_from next k p) (let e : suc n + 1 ≡ suc (n + 1) = omega arith in e)
    ∙ ap (λ l. p ∷ l) (ring_from-closed next n (next p) q (steps-first next n p ∙ is))

-- a colour that a cell stands for tells that the cell isn't 0
pub value-some : (k : ℕ) (c : Colour) → colour_coded k ≡ Some c → 0 < k
value-some zero c is = absurd (cc)
value-some (suc k) c is = omega arith

pub value-of_stone : (k : ℕ) → 0 < k → k < 3 → (c : Colour) × (colour_coded k ≡ Some c)
value-of_stone zero some small = absurd (omega arith)
value-of_stone (suc zero) some small = (Black, refl)
value-of_stone (suc (suc zero)) some small = (White, refl)
value-of_stone (suc (suc (suc k))) some small = absurd (omega arith)

pub value-none : (k : ℕ) → k < 3 → colour_coded k ≡ None → k ≡ 0
value-none zero small is = refl
value-none (suc zero) small is = absurd (cc)
value-none (suc (suc zero)) small is = absurd (cc)
value-none (suc (suc (suc k))) small is = absurd (omega arith)

pub value-injective : (j k : ℕ) → j < 3 → k < 3 → colour_coded j ≡ colour_coded k → j ≡ k
value-injective zero k sj sk is = sym (value-none k sk (sym is))
value-injective (suc zero) zero sj sk is = absurd (cc)
value-injective (suc zero) (suc zero) sj sk is = refl
value-injective (suc zero) (suc (suc zero)) sj sk is = absurd (cc)
value-injective (suc zero) (suc (suc (suc k))) sj sk is = absurd (omega arith)
value-injective (suc (suc zero)) zero sj sk is = absurd (cc)
value-injective (suc (suc zero)) (suc zero) sj sk is = absurd (cc)
value-injective (suc (suc zero)) (suc (suc zero)) sj sk is = refl
value-injective (suc (suc zero)) (suc (suc (suc k))) sj sk is = absurd (omega arith)
value-injective (suc (suc (suc j))) k sj sk is = absurd (omega arith)

-- links keep the colour, and stay on the board
pub colour-linked : (n : ℕ) (adj : ℕ → ℕ → Type 0) (inside : (p q : ℕ) → adj p q → q < n) (f : ℕ → ℕ) (p : ℕ)
    (via : List ℕ) (q : ℕ) → p < n → Links adj f p via q → (q < n) × (f q ≡ f p)
colour-linked n adj inside f p [] q p_in links = let P : ℕ → Type 0 = λ x. (x < n) × (f x ≡ f p) in
    subst P links (p_in, refl)
colour-linked n adj inside f p (x ∷ xs) q p_in links = let r =
    colour-linked n adj inside f x xs q (inside p x links.0) links.2 in (r.0, r.1 ∙ links.1)

-- what a cell of a sound colouring stands for, and the other way round
module _ (n : ℕ) (g : Colouring) (cells : List ℕ) (inside_g : (p : ℕ) (c : Colour) → colour_at g p ≡ Some c → p < n * n)
    (colours : (p : ℕ) → p < n * n → colour_at g p ≡ colour_coded (code_at cells p))
    (coded : (p : ℕ) → p < n * n → code_at cells p < 3) where
  pub stone_of : (p : ℕ) → IsStoneOf g p → IsStone (n * n) (tables_of cells) p
  stone_of p is =
      let p_in = inside_g p is.0 is.1 in
      (p_in, value-some (code_at cells p) is.0 (sym (colours p p_in) ∙ is.1))

  pub of_stone : (p : ℕ) → IsStone (n * n) (tables_of cells) p → IsStoneOf g p
  of_stone p stone = let v = value-of_stone (code_at cells p) stone.1 (coded p stone.0) in
      (v.0, colours p stone.0 ∙ v.1)

  pub empty_of : (p : ℕ) → p < n * n → colour_at g p ≡ None → code_at cells p ≡ 0
  empty_of p p_in is = value-none (code_at cells p) (coded p p_in) (sym (colours p p_in) ∙ is)

  pub of_empty : (p : ℕ) → p < n * n → code_at cells p ≡ 0 → colour_at g p ≡ None
  of_empty p p_in none = colours p p_in ∙ ap colour_coded none

  pub leads_of : (p : ℕ) (via : List ℕ) (q : ℕ) → p < n * n → Links (IsAdjacent n) (code_at cells) p via q →
      Leads n g p via q
  leads_of p [] q p_in links = links
  leads_of p (x ∷ xs) q p_in links =
      let x_in : x < n * n = links.0.1 in
      (links.0, colours x x_in ∙ ap colour_coded links.1 ∙ sym (colours p p_in), leads_of x xs q x_in links.2)

  pub of_leads : (p : ℕ) (via : List ℕ) (q : ℕ) → p < n * n → Leads n g p via q →
      Links (IsAdjacent n) (code_at cells) p via q
  of_leads p [] q p_in leads = leads
  of_leads p (x ∷ xs) q p_in leads =
      let x_in : x < n * n = leads.0.1 in (
        leads.0,
        value-injective (code_at cells x) (code_at cells p) (coded x x_in) (coded p p_in)
            (sym (colours x x_in) ∙ leads.1 ∙ colours p p_in),
        of_leads x xs q x_in leads.2,
      )

  pub chain_of : (p q : ℕ) → p < n * n → IsJoined (IsAdjacent n) (code_at cells) p q → Joined n g p q
  chain_of p q p_in joined = (joined.0, leads_of p joined.0 q p_in joined.1)

  pub of_chain : (p q : ℕ) → p < n * n → Joined n g p q → IsJoined (IsAdjacent n) (code_at cells) p q
  of_chain p q p_in chain = (chain.0, of_leads p chain.0 q p_in chain.1)

  pub far_stone : (p q : ℕ) → IsStone (n * n) (tables_of cells) p → Joined n g p q → IsStone (n * n) (tables_of cells) q
      × (code_at cells q ≡ code_at cells p)
  far_stone p q stone chain =
      let l = colour-linked (n * n) (IsAdjacent n) (λ x y near. near.1) (code_at cells) p chain.0 q stone.0
      (of_leads p chain.0 q stone.0 chain.1) in
      ((l.0, let h : 0 < code_at cells p = stone.1 in let e = l.1 in omega arith), l.1)

-- sound cells whose chains' labels are stones of them are tidy
module _ (n : ℕ) (g : Colouring) (cells : List ℕ) (inside_g : (p : ℕ) (c : Colour) → colour_at g p ≡ Some c → p < n * n)
    (sound : AreSound n g cells) (heads : (p : ℕ) → IsStoneOf g p → Joined n g p (label_of cells p)) where
  stone : (p : ℕ) → IsStone (n * n) (tables_of cells) p → IsStoneOf g p
  stone = of_stone n g cells inside_g sound.colours sound.coded

  far : (p q : ℕ) → IsStone (n * n) (tables_of cells) p → Joined n g p q → IsStone (n * n) (tables_of cells) q
      × (code_at cells q ≡ code_at cells p)
  far = far_stone n g cells inside_g sound.colours sound.coded

  same_label : (p q : ℕ) → IsStone (n * n) (tables_of cells) p → Joined n g p q → label_of cells p ≡ label_of cells q
  same_label p q s chain = (sound.labels p q (stone p s) (stone q (far p q s chain).0)).1 chain

  pub IsTidy-sound : IsTidy (n * n) (IsAdjacent n) (tables_of cells)
  IsTidy-sound = record {
    head_in = λ p s. (far p (label_of cells p) s (heads p (stone p s))).0.0;
    head_colour = λ p s. (far p (label_of cells p) s (heads p (stone p s))).1;
    head_label = λ p s. sym (same_label p (label_of cells p) s (heads p (stone p s)));
    ring = λ p s.
        let m = size_of cells (label_of cells p) in
        let l = sound.rings p (stone p s) in
        let there = IsOn-Contains (next_of cells) m p p ((l.1 p).1 ([], refl)) in
        record {
          some = let b : there.0 < m = there.1 in omega arith;
          closes =
              let size = length-ring_from (next_of cells) m p in
              sym (ring_from-at (next_of cells) (m + 1) p m p (omega arith))
              ∙ ap (λ l. slice_index_or l m p) (sound.closed p (stone p s))
              ∙ ap (λ k. slice_index_or (ring_from (next_of cells) m p ++ p ∷ []) k p) (sym size)
              ∙ get_or-append_seam (ring_from (next_of cells) m p) p [] p;
          apart = apart-ring_from (next_of cells) m p l.0;
        };
    on_ring = λ p q s on.
        let chain = ((sound.rings p (stone p s)).1 q).0
        (Contains-IsOn (next_of cells) (size_of cells (label_of cells p)) p q on) in
        ((far p q s chain).0, sym (same_label p q s chain));
    ring_has = λ p q s s_q same.
        IsOn-Contains (next_of cells) (size_of cells (label_of cells p)) p q
        (((sound.rings p (stone p s)).1 q).1 ((sound.labels p q (stone p s) (stone q s_q)).0 (sym same)));
    lib_is = λ p q s q_in one.
        let l = (sound.liberties p q (stone p s) q_in).0 one in (
          empty_of n g cells inside_g sound.colours sound.coded q q_in l.0,
          (l.1.0, (far p l.1.0 s l.1.1).0, sym (same_label p l.1.0 s l.1.1), l.1.2),
        );
    has_lib = λ p q s q_in none touch.
        (sound.liberties p q (stone p s) q_in).1 (
          of_empty n g cells inside_g sound.colours sound.coded q q_in none,
          (touch.0, (sound.labels p touch.0 (stone p s) (stone touch.0 touch.1)).0 (sym touch.2), touch.3),
        );
    joined = λ p q s s_q same. of_chain n g cells inside_g sound.colours sound.coded p q s.0
        ((sound.labels p q (stone p s) (stone q s_q)).0 same);
  }

  pub IsWhole-sound : AreChainsWhole (n * n) (IsAdjacent n) (tables_of cells)
  IsWhole-sound p q s s_q near same =
      same_label p q s (chain_of n g cells inside_g sound.colours sound.coded p q s.0 (q ∷ [], (near, sym same, refl)))

  pub alive-sound : (p : ℕ) → IsStone (n * n) (tables_of cells) p → (x : ℕ) × (x < n * n)
      × (lib_of cells (label_of cells p) x ≡ 1)
  alive-sound p s =
      let l = sound.alive p (stone p s) in
      (l.1, l.3.1, (sound.liberties p l.1 (stone p s) l.3.1).1 (l.4, (l.0, l.2, l.3)))

-- and tidy, whole cells whose chains have liberties are sound
module _ (n : ℕ) (g : Colouring) (cells : List ℕ) (inside_g : (p : ℕ) (c : Colour) → colour_at g p ≡ Some c → p < n * n)
    (colours : (p : ℕ) → p < n * n → colour_at g p ≡ colour_coded (code_at cells p))
    (coded : (p : ℕ) → p < n * n → code_at cells p < 3)
    (tidy : IsTidy (n * n) (IsAdjacent n) (tables_of cells))
    (whole : AreChainsWhole (n * n) (IsAdjacent n) (tables_of cells))
    (living : (p : ℕ) → IsStone (n * n) (tables_of cells) p → (x : ℕ) × (x < n * n)
    × (lib_of cells (label_of cells p) x ≡ 1)) where
  chain_label : (p q : ℕ) → IsStone (n * n) (tables_of cells) p → Joined n g p q → IsStone (n * n) (tables_of cells) q
      × (label_of cells p ≡ label_of cells q)
  chain_label p q s chain = label-linked (n * n) (IsAdjacent n) (λ x y near. near.1) (tables_of cells) whole p chain.0 q
      s (of_leads n g cells inside_g colours coded p chain.0 q s.0 chain.1)

  label_chain : (p q : ℕ) → IsStone (n * n) (tables_of cells) p → IsStone (n * n) (tables_of cells) q →
      label_of cells p ≡ label_of cells q → Joined n g p q
  label_chain p q s s_q same = chain_of n g cells inside_g colours coded p q s.0 (tidy.joined p q s s_q same)

  liberty : (p q : ℕ) → IsStone (n * n) (tables_of cells) p → q < n * n → lib_of cells (label_of cells p) q ≡ 1 →
      IsChainLiberty n g p q
  liberty p q s q_in one =
      let l = tidy.lib_is p q s q_in one in
      (of_empty n g cells inside_g colours coded q q_in l.0, (l.1.0, label_chain p l.1.0 s l.1.1 (sym l.1.2), l.1.3))

  pub AreSound-tidy : AreSound n g cells
  AreSound-tidy = record {
    colours = colours;
    coded = coded;
    alive = λ p is.
        let s = stone_of n g cells inside_g colours coded p is in
        let l = living p s in
        let free = liberty p l.0 s l.1 l.2 in
        (free.1.0, l.0, free.1.1, free.1.2, free.0);
    labels = λ p q is is_q.
        let s = stone_of n g cells inside_g colours coded p is in
        (label_chain p q s (stone_of n g cells inside_g colours coded q is_q), λ chain. (chain_label p q s chain).1);
    rings = λ p is.
        let s = stone_of n g cells inside_g colours coded p is in
        let m = size_of cells (label_of cells p) in (
          ring_from-apart (next_of cells) m p (tidy.ring p s).apart,
          λ q. (
            λ has. (let on = tidy.on_ring p q s (IsOn-Contains (next_of cells) m p q has) in
                label_chain p q s on.0 (sym on.1)),
            λ chain. (let l = chain_label p q s chain in
                Contains-IsOn (next_of cells) m p q (tidy.ring_has p q s l.0 (sym l.1))),
          ),
        );
    closed = λ p is. let s = stone_of n g cells inside_g colours coded p is in
        ring_from-closed (next_of cells) (size_of cells (label_of cells p)) p p (tidy.ring p s).closes;
    liberties = λ p q is q_in.
        let s = stone_of n g cells inside_g colours coded p is in (
          liberty p q s q_in,
          λ l. (let c = chain_label p l.1.0 s l.1.1 in
              tidy.has_lib p q s q_in (empty_of n g cells inside_g colours coded q q_in l.0)
              (l.1.0, c.0, sym c.1, l.1.2)),
        );
  }

  pub heads-tidy : (p : ℕ) → IsStoneOf g p → Joined n g p (label_of cells p)
  heads-tidy p is =
      let s = stone_of n g cells inside_g colours coded p is in
      let c = tidy.head_colour p s in
      label_chain p (label_of cells p) s (tidy.head_in p s, let h : 0 < code_at cells p = s.1 in omega arith)
      (sym (tidy.head_label p s))

-- the colouring that cells say, point by point
pub colouring-at : (n : ℕ) (cells : List ℕ) (p : ℕ) → p < n * n →
    colour_at (colouring_of n cells) p ≡ colour_coded (code_at cells p)
unfolding colouring_of
colouring-at n cells p p_in = get_or-map-range_with_len (λ q. colour_coded (code_at cells q)) 0 (n * n) p p None p_in
    (omega arith)

pub length-colouring : (n : ℕ) (cells : List ℕ) → length (colouring_of n cells) ≡ n * n
unfolding colouring_of
length-colouring n cells = length-map-range_with_len (λ q. colour_coded (code_at cells q)) 0 (n * n)

pub colouring-inside : (n : ℕ) (cells : List ℕ) (p : ℕ) (c : Colour) → colour_at (colouring_of n cells) p ≡ Some c →
    p < n * n
colouring-inside n cells p c is = elim (cases_lt p (n * n)) [
  | inl inside ↦ inside
  | inr past ↦ (let none : colour_at (colouring_of n cells) p ≡ None =
      get_or_past (colouring_of n cells) p None (omega (arith, length-colouring n cells)) in absurd (cc))
]

-- the cells of a board
module _ (n : ℕ) (cells : List ℕ) (kept : IsKept n cells) where
  pub tidy-kept : IsTidy (n * n) (IsAdjacent n) (tables_of cells)
  tidy-kept = IsTidy-sound n (colouring_of n cells) cells (colouring-inside n cells) kept.sound kept.heads

  pub whole-kept : AreChainsWhole (n * n) (IsAdjacent n) (tables_of cells)
  whole-kept = IsWhole-sound n (colouring_of n cells) cells (colouring-inside n cells) kept.sound kept.heads

  pub alive-kept : (p : ℕ) → IsStone (n * n) (tables_of cells) p → (x : ℕ) × (x < n * n)
      × (lib_of cells (label_of cells p) x ≡ 1)
  alive-kept = alive-sound n (colouring_of n cells) cells (colouring-inside n cells) kept.sound kept.heads

  pub stone-kept : (p : ℕ) → IsStoneOf (colouring_of n cells) p → IsStone (n * n) (tables_of cells) p
  stone-kept = stone_of n (colouring_of n cells) cells (colouring-inside n cells) kept.sound.colours kept.sound.coded

pub IsKept-tidy : (n : ℕ) (cells : List ℕ) → n ≤ MAX_LINES → ((p : ℕ) → p < n * n → code_at cells p < 3)
    → IsTidy (n * n) (IsAdjacent n) (tables_of cells) → AreChainsWhole (n * n) (IsAdjacent n) (tables_of cells)
    → ((p : ℕ) → IsStone (n * n) (tables_of cells) p → (x : ℕ) × (x < n * n)
    × (lib_of cells (label_of cells p) x ≡ 1)) → IsKept n cells
IsKept-tidy n cells small coded tidy whole living =
    let g = colouring_of n cells in
    record {
      small = small;
      sound = AreSound-tidy n g cells (colouring-inside n cells) (colouring-at n cells) coded tidy whole living;
      heads = heads-tidy n g cells (colouring-inside n cells) (colouring-at n cells) coded tidy whole living;
    }
