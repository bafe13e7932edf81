-- What a history has after one situation more or fewer.
use Rattle.std.proofs.Common.{arith, ◌≡◌, ◌≢◌, ◌<◌, ◌≤◌, ◌+◌, ◌==◌, ◌&&◌, ◌∙◌, ℕ, zero, suc, Bool, true, false, true≢false, cond, if◌then◌else◌, List, [], ◌∷◌, ◌++◌, Option, Some, None, Contains, length, slice_index_or, ap, ap₂, refl, sym, subst}
use Rattle.go_board.specs.Laws.{PacksTellApart}
use Rattle.std.proofs.lemmas.Bool.Decides.{nat_tests}
use Rattle.std.proofs.lemmas.Bool.{and_parts}
use Rattle.std.specs.Bool.{one_answer}
use Rattle.std.specs.Option.{unwrap_or}
use Rattle.std.proofs.lemmas.List.{get_or_default}
use Rattle.std.proofs.lemmas.Slice.Eq.{bytes_eq-Decides}
use Rattle.go_board.specs.declared.pack.Packed.{Packed}
use Rattle.go_board.specs.declared.size.TheConstants.{MAX_POINTS}
use Rattle.go_board.specs.Colours.{Colouring}
use Rattle.go_board.specs.PackBytes.{bytes_of, packed_eq}
use Rattle.go_board.specs.Packs.{packed_of}
use Rattle.go_board.specs.Reaching.{is_same}
use Rattle.go_history.specs.declared.key.Key.{Key}
use Rattle.go_history.specs.Histories.{HistoryValue, IsBegun, IsChangedAt, IsForgotten, IsUnchanged, later_at, number_at, without}
use Rattle.go_history.specs.Keys.{key_eq}
use Rattle.go_game.specs.inner.Histories.{IsKeyOf, IsNoted, StandsFor}
use Rattle.go_game.specs.Legal.{same_colours, same_seen}
use Rattle.go_game.specs.Standings.{IsFirstAt, Seen}
use Rattle.go_game.specs.Whole.{first_at}
use Rattle.go_game.proofs.Legal.{colours_same, same_colours_self, same_is, same_seen_self, seen_same}

-- ---- the first place of what was seen

pub first_stays : (k : ℕ) (gs more : List Seen) (g : Seen) (j : ℕ) → first_at k gs g ≡ Some j →
    first_at k (gs ++ more) g ≡ Some j
first_stays k [] more g j e = cc
first_stays k (h ∷ gs) more g j e = stays (first_stays (k + 1) gs more g j) (same_seen h g) e
  where
    stays : (first_at (k + 1) gs g ≡ Some j → first_at (k + 1) (gs ++ more) g ≡ Some j) → (b : Bool)
        → (if b then Some k else first_at (k + 1) gs g) ≡ Some j →
        (if b then Some k else first_at (k + 1) (gs ++ more) g) ≡ Some j
    stays rest true e = e
    stays rest false e = rest e

pub first_last : (k : ℕ) (gs : List Seen) (x g : Seen) → first_at k gs g ≡ None →
    first_at k (gs ++ x ∷ []) g ≡ (if same_seen x g then Some (k + length gs) else None)
first_last k [] x g e = ap (λ j. if same_seen x g then Some j else None) (let z : k ≡ k + 0 = omega arith in z)
first_last k (h ∷ gs) x g e = last (first_last (k + 1) gs x g) (same_seen h g) e
  where
    last : (first_at (k + 1) gs g ≡ None → first_at (k + 1) (gs ++ x ∷ [])
        g ≡ (if same_seen x g then Some (k + 1 + length gs) else None)) → (b : Bool)
        → (if b then Some k else first_at (k + 1) gs g) ≡ None
        → (if b then Some k else first_at (k + 1) (gs ++ x ∷ []) g) ≡
        (if same_seen x g then Some (k + length (h ∷ gs)) else None)
    last rest true e = cc
    last rest false e = rest e ∙ ap (λ j. if same_seen x g then Some j else None)
        (let z : k + 1 + length gs ≡ k + suc (length gs) = omega arith in z)

-- one that is not the last has its first place before it
pub first_before : (gs : List Seen) (x g : Seen) → same_seen x g ≡ false → first_at 0 (gs ++ x ∷ []) g ≡ first_at 0 gs g
first_before gs x g other = before (first_at 0 gs g) refl
  where
    before : (o : Option ℕ) → first_at 0 gs g ≡ o → first_at 0 (gs ++ x ∷ []) g ≡ o
    before (Some j) e = first_stays 0 gs (x ∷ []) g j e
    before None e = first_last 0 gs x g e ∙ ap (λ b. if b then Some (0 + length gs) else None) other

number_here : (k j : ℕ) → Some k ≡ Some j → j ≡ k + 0
number_here k j e = omega (arith, unwrap_is e)
  where
    unwrap_is : Some k ≡ Some j → k ≡ j
    unwrap_is e = ap (λ (o : Option ℕ). unwrap_or o k) e

-- the number that was found is the first place
pub first_found : (k : ℕ) (gs : List Seen) (g : Seen) (j : ℕ) → first_at k gs g ≡ Some j → (i : ℕ) × (j ≡ k + i)
    × IsFirstAt gs g i
first_found k [] g j e = cc
first_found k (h ∷ gs) g j e = found (first_found (k + 1) gs g j) (same_seen h g) refl e
  where
    found : (first_at (k + 1) gs g ≡ Some j → (i : ℕ) × (j ≡ k + 1 + i) × IsFirstAt gs g i) → (b : Bool)
        → same_seen h g ≡ b → (if b then Some k else first_at (k + 1) gs g) ≡ Some j → (i : ℕ) × (j ≡ k + i)
        × IsFirstAt (h ∷ gs) g i
    found later true same e = (
      0,
      number_here k j e,
      (omega arith, seen_same h g same, λ i low. absurd (omega (arith, low))),
    )
    found later false other e =
        let rest = later e in
        (suc rest.0, omega (arith, rest.1), (omega (arith, rest.2.0), rest.2.1, earlier other rest.0 rest.2.2))
      where
        earlier : same_seen h g ≡ false → (i : ℕ) → ((n : ℕ) → n < i → slice_index_or gs n ([], None) ≢ g) → (n : ℕ) →
            n < suc i → slice_index_or (h ∷ gs) n ([], None) ≢ g
        earlier other i none zero low is =
            true≢false (sym (same_seen_self g) ∙ ap (λ (x : Seen). same_seen x g) (sym is) ∙ other)
        earlier other i none (suc n) low is = none n (omega (arith, low)) is

-- and it is below their number
first_low : (k : ℕ) (gs : List Seen) (g : Seen) (j : ℕ) → first_at k gs g ≡ Some j → j < k + length gs
first_low k gs g j e = let found = first_found k gs g j e in omega (arith, found.1, found.2.0)

pub first_none : (k : ℕ) (gs : List Seen) (g : Seen) → first_at k gs g ≡ None → (i : ℕ) → i < length gs →
    slice_index_or gs i ([], None) ≢ g
first_none k [] g e i low is = absurd (omega (arith, low))
first_none k (h ∷ gs) g e i low is = none (first_none (k + 1) gs g) (same_seen h g) refl e i low is
  where
    none : (first_at (k + 1) gs g ≡ None → (i : ℕ) → i < length gs → slice_index_or gs i ([], None) ≢ g) → (b : Bool)
        → same_seen h g ≡ b → (if b then Some k else first_at (k + 1) gs g) ≡ None → (i : ℕ) → i < length (h ∷ gs)
        → slice_index_or (h ∷ gs) i ([], None) ≢ g
    none rest true same e i low is = cc
    none rest false other e zero low is =
        true≢false (sym (same_seen_self g) ∙ ap (λ (x : Seen). same_seen x g) (sym is) ∙ other)
    none rest false other e (suc n) low is = rest e n (omega (arith, low)) is

pub none_stands : (gs : List Seen) (g : Seen) → first_at 0 gs g ≡ None → Contains gs g → ⊥
none_stands gs g e found = first_none 0 gs g e found.0 found.1
    (get_or_default gs found.0 ([], None) g found.1 ∙ found.2)

pub first_absent : (gs : List Seen) (g : Seen) → (Contains gs g → ⊥) → first_at 0 gs g ≡ None
first_absent gs g new = absent (first_at 0 gs g) refl
  where
    absent : (o : Option ℕ) → first_at 0 gs g ≡ o → o ≡ None
    absent None e = refl
    absent (Some j) e =
        let found = first_found 0 gs g j e in
        absurd (new (found.0, found.2.0, get_or_default gs found.0 g ([], None) found.2.0 ∙ found.2.1))

-- one that stood adds no first place
pub first_stood : (gs : List Seen) (x g : Seen) → Contains gs x → first_at 0 (gs ++ x ∷ []) g ≡ first_at 0 gs g
first_stood gs x g stood = at (first_at 0 gs g) refl (same_seen x g) refl
  where
    at : (o : Option ℕ) → first_at 0 gs g ≡ o → (b : Bool) → same_seen x g ≡ b → first_at 0 (gs ++ x ∷ []) g ≡ o
    at (Some j) e b same = first_stays 0 gs (x ∷ []) g j e
    at None e true same = absurd (none_stands gs g e (subst (Contains gs) (seen_same x g same) stood))
    at None e false other = first_before gs x g other ∙ e

-- ---- packs tell colourings apart, by the law of boards

-- the test of packs and the test of colourings agree
packs_agree : PacksTellApart → (n : ℕ) → n ≤ MAX_POINTS → (p q : Packed) (g h : Colouring) → bytes_of p ≡ packed_of g
    → bytes_of q ≡ packed_of h → length g ≡ n → length h ≡ n → packed_eq p q ≡ same_colours g h
packs_agree law n few p q g h p_packs q_packs g_whole h_whole =
    one_answer {P = g ≡ h} (packed_eq p q) (same_colours g h) (
      λ e. (law g h (g_whole ∙ sym h_whole) (omega (arith, g_whole, few))).0 (sym p_packs ∙ bytes.0 e ∙ q_packs),
      λ e. bytes.1 (p_packs ∙ ap packed_of e ∙ sym q_packs),
    )
    (colours_same g h, λ e. subst (λ (x : Colouring). same_colours g x ≡ true) e (same_colours_self g))
  where
    bytes : (packed_eq p q ≡ true → bytes_of p ≡ bytes_of q) × (bytes_of p ≡ bytes_of q → packed_eq p q ≡ true)
    bytes = bytes_eq-Decides (bytes_of p) (bytes_of q)

-- and so do the test of keys and that of what they are of
pub keys_agree : PacksTellApart → (n : ℕ) → n ≤ MAX_POINTS → (p q : Key) (x y : Seen) → IsKeyOf p x → IsKeyOf q y →
    length x.0 ≡ n → length y.0 ≡ n → key_eq p q ≡ same_seen x y
keys_agree law n few p q x y p_is q_is x_whole y_whole =
    ap₂ (λ a b. a && b) (packs_agree law n few p.pack q.pack x.0 y.0 p_is.0 q_is.0 x_whole y_whole)
    (ap₂ is_same p_is.1 q_is.1)

-- ---- histories

-- what a look-up says
pub history_found : (n : ℕ) (h : HistoryValue) (gs : List Seen) (p : Key) (g : Seen) (k : ℕ) → StandsFor n h gs →
    IsKeyOf p g → length g.0 ≡ n
    → number_at h p ≡ Some k → IsFirstAt gs g k
history_found n h gs p g k stands packs whole e =
    let found = first_found 0 gs g k (sym (stands p g packs whole) ∙ e) in
    subst (IsFirstAt gs g) (let z : found.0 ≡ k = omega (arith, found.1) in z) found.2

pub history_lacks : (n : ℕ) (h : HistoryValue) (gs : List Seen) (p : Key) (g : Seen) → StandsFor n h gs → IsKeyOf p g →
    length g.0 ≡ n
    → number_at h p ≡ None → Contains gs g → ⊥
history_lacks n h gs p g stands packs whole e = none_stands gs g (sym (stands p g packs whole) ∙ e)

pub history_begun : PacksTellApart → (n : ℕ) → n ≤ MAX_POINTS → (h : HistoryValue) (p : Key) (g : Seen) → IsBegun h p →
    IsKeyOf p g → length g.0 ≡ n
    → StandsFor n h (g ∷ [])
history_begun law n few h p g begun packs whole q x q_packs x_whole =
    ap (λ (s : Key). cond (key_eq s q) (Some 0) (later_at h q)) begun.0
    ∙ ap (λ o. cond (key_eq p q) (Some 0) o) (begun.1 q)
    ∙ ap (λ b. if b then Some 0 else None) (keys_agree law n few p q g x packs q_packs whole x_whole)

pub history_kept : (n : ℕ) (old new : HistoryValue) (gs : List Seen) → IsUnchanged old new → StandsFor n old gs →
    StandsFor n new gs
history_kept n old new gs kept stands q x q_packs x_whole = number_kept old new q kept ∙ stands q x q_packs x_whole
  where
    number_kept : (old new : HistoryValue) (q : Key) → IsUnchanged old new → number_at new q ≡ number_at old q
    number_kept old new q kept = ap (λ (s : Key). cond (key_eq s q) (Some 0) (later_at new q)) kept.0
        ∙ ap (λ o. cond (key_eq old.start q) (Some 0) o) (kept.1 q)

-- what a changed history has
number_changed : (old new : HistoryValue) (p : Key) (w : Option ℕ) (q : Key) → IsChangedAt old new p w
    → number_at new q ≡ cond (key_eq old.start q) (Some 0) (cond (key_eq p q) w (later_at old q))
number_changed old new p w q changed =
    ap (λ (s : Key). cond (key_eq s q) (Some 0) (later_at new q)) changed.0
    ∙ ap (λ o. cond (key_eq old.start q) (Some 0) o) (changed.1 q)

-- one that didn't stand, noted with the number of those that did
pub history_more : PacksTellApart → (n : ℕ) → n ≤ MAX_POINTS →
    (old new : HistoryValue) (gs : List Seen) (p : Key) (g : Seen) (k : ℕ)
    → StandsFor n old gs → IsChangedAt old new p (Some k) → k ≡ length gs → IsKeyOf p g → length g.0 ≡ n →
    (Contains gs g → ⊥)
    → StandsFor n new (gs ++ g ∷ [])
history_more law n few old new gs p g k stands changed count packs whole novel q x q_packs x_whole =
    number_changed old new p (Some k) q changed
    ∙ more (key_eq old.start q) (key_eq p q) (later_at old q) (stands q x q_packs x_whole)
    (sym (keys_agree law n few p q g x packs q_packs whole x_whole))
  where
    more : (a b : Bool) (o : Option ℕ) → cond a (Some 0) o ≡ first_at 0 gs x → same_seen g x ≡ b →
        cond a (Some 0) (cond b (Some k) o) ≡ first_at 0 (gs ++ g ∷ []) x
    more true b o is same = sym (first_stays 0 gs (g ∷ []) x 0 (sym is))
    more false true o is same =
        let absent = subst (λ (y : Seen). first_at 0 gs y ≡ None) (seen_same g x same) (first_absent gs g novel) in
        ap (λ (j : ℕ). Some j) (let z : k ≡ 0 + length gs = omega (arith, count) in z)
        ∙ sym (first_last 0 gs g x absent ∙ ap (λ b. if b then Some (0 + length gs) else None) same)
    more false false o is same = is ∙ sym (first_before gs g x same)

-- the number of the last one taken back: it goes where that stood nowhere before, and stays where it did
pub history_less : PacksTellApart → (n : ℕ) → n ≤ MAX_POINTS →
    (old new : HistoryValue) (gs : List Seen) (p : Key) (g : Seen) (k : ℕ)
    → StandsFor n old (gs ++ g ∷ []) → IsForgotten old new p k → k ≡ length gs → 0 < k → IsKeyOf p g → length g.0 ≡ n
    → StandsFor n new gs
history_less law n few old new gs p g k stands forgotten count some packs whole q x q_packs x_whole =
    ap (λ (s : Key). cond (key_eq s q) (Some 0) (later_at new q)) forgotten.0
    ∙ ap (λ o. cond (key_eq old.start q) (Some 0) o) (forgotten.1 q)
    ∙ less (key_eq old.start q) (key_eq p q) (later_at old q) (stands q x q_packs x_whole)
    (sym (keys_agree law n few p q g x packs q_packs whole x_whole))
  where
    last : first_at 0 gs x ≡ None → same_seen g x ≡ true → first_at 0 (gs ++ g ∷ []) x ≡ Some k
    last e same = first_last 0 gs g x e ∙ ap (λ b. if b then Some (0 + length gs) else None) same
        ∙ ap (λ (j : ℕ). Some j) (let z : 0 + length gs ≡ k = omega (arith, count) in z)

    at_start : (o : Option ℕ) (b : Bool) → Some 0 ≡ first_at 0 (gs ++ g ∷ []) x → first_at 0 gs x ≡ o →
        same_seen g x ≡ b → Some 0 ≡ o
    at_start (Some j) b is e same = is ∙ first_stays 0 gs (g ∷ []) x j e
    at_start None true is e same = absurd (omega (arith, some, ap (λ (o : Option ℕ). unwrap_or o 0) (is ∙ last e same)))
    at_start None false is e same = is ∙ first_last 0 gs g x e ∙ ap (λ b. if b then Some (0 + length gs) else None) same

    -- at the last one itself
    here : (o : Option ℕ) → first_at 0 gs x ≡ o → (noted : Option ℕ) → noted ≡ first_at 0 (gs ++ g ∷ []) x →
        same_seen g x ≡ true → without k noted ≡ o
    here None e noted is same = ap (without k) (is ∙ last e same)
        ∙ ap (λ b. cond b None (Some k)) (let z : (k == k) ≡ true = grind (arith, nat_tests) in z)
    here (Some j) e noted is same =
        let low = first_low 0 gs x j e in
        ap (without k) (is ∙ first_stays 0 gs (g ∷ []) x j e)
        ∙ ap (λ b. cond b None (Some j)) (let z : (j == k) ≡ false = grind (arith, nat_tests, low, count) in z)

    less : (a b : Bool) (o : Option ℕ) → cond a (Some 0) o ≡ first_at 0 (gs ++ g ∷ []) x → same_seen g x ≡ b →
        cond a (Some 0) (cond b (without k o) o) ≡ first_at 0 gs x
    less true b o is same = at_start (first_at 0 gs x) b is refl same
    less false true o is same = here (first_at 0 gs x) refl o is same
    less false false o is same = is ∙ first_before gs g x same

-- the last one's key taken out where it stood nowhere before
pub history_only : PacksTellApart → (n : ℕ) → n ≤ MAX_POINTS →
    (old new : HistoryValue) (gs : List Seen) (p : Key) (g : Seen) (k : ℕ)
    → StandsFor n old (gs ++ g ∷ []) → IsChangedAt old new p None → k ≡ length gs → 0 < k → IsKeyOf p g →
    length g.0 ≡ n → (Contains gs g → ⊥)
    → IsForgotten old new p k
history_only law n few old new gs p g k stands changed count some packs whole novel =
    (changed.0, λ q. changed.1 q ∙ only q (key_eq p q) refl)
  where
    last : first_at 0 (gs ++ g ∷ []) g ≡ Some k
    last = first_last 0 gs g g (first_absent gs g novel)
        ∙ ap (λ b. if b then Some (0 + length gs) else None) (same_seen_self g)
        ∙ ap (λ (j : ℕ). Some j) (let z : 0 + length gs ≡ k = omega (arith, count) in z)

    later : (start : Bool) (o : Option ℕ) → cond start (Some 0) o ≡ Some k → o ≡ Some k
    later true o e = absurd (omega (arith, some, ap (λ (x : Option ℕ). unwrap_or x 0) e))
    later false o e = e

    only : (q : Key) (b : Bool) → key_eq p q ≡ b →
        cond b None (later_at old q) ≡ cond b (without k (later_at old q)) (later_at old q)
    only q false e = refl
    only q true e =
        let same = and_parts (packed_eq p.pack q.pack) (is_same p.mover q.mover) e in
        let q_packs : IsKeyOf q g = (
          sym ((bytes_eq-Decides (bytes_of p.pack) (bytes_of q.pack)).0 same.0) ∙ packs.0,
          sym (same_is p.mover q.mover same.1) ∙ packs.1,
        ) in
        let noted = later (key_eq old.start q) (later_at old q) (stands q g q_packs whole ∙ last) in
        sym (ap (without k) noted ∙ ap (λ b. cond b None (Some k))
        (let z : (k == k) ≡ true = grind (arith, nat_tests) in z))

-- one that stood already, once more
pub history_again : (n : ℕ) (h : HistoryValue) (gs : List Seen) (g : Seen) → StandsFor n h gs → Contains gs g →
    StandsFor n h (gs ++ g ∷ [])
history_again n h gs g stands stood q x q_packs x_whole = stands q x q_packs x_whole ∙ sym (first_stood gs g x stood)

-- one more, noted unless it stood
pub history_next : PacksTellApart → (n : ℕ) → n ≤ MAX_POINTS →
    (old new : HistoryValue) (gs : List Seen) (p : Key) (g : Seen) (k : ℕ)
    → StandsFor n old gs → IsNoted old new p k → k ≡ length gs → IsKeyOf p g → length g.0 ≡ n →
    StandsFor n new (gs ++ g ∷ [])
history_next law n few old new gs p g k stands noting count packs whole = next noting.known refl
  where
    next : (o : Option ℕ) → noting.known ≡ o → StandsFor n new (gs ++ g ∷ [])
    next None e =
        history_more law n few old new gs p g k stands (noting.noted e) count packs whole
        (history_lacks n old gs p g stands packs whole (sym noting.found ∙ e))
    next (Some j) e =
        let first = history_found n old gs p g j stands packs whole (sym noting.found ∙ e) in
        history_again n new gs g (history_kept n old new gs (noting.stood j e) stands)
        (j, first.0, get_or_default gs j g ([], None) first.0 ∙ first.1)
