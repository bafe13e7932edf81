-- Where the digits of hashes lead in a tree of keys, and once an entry was added or taken away.
use Rattle.std.proofs.Common.{◌≡◌, ◌≢◌, ◌<◌, ◌≤◌, ◌+◌, ◌*◌, ◌-◌, ◌∙◌, nat_lt, ℕ, zero, suc, Bool, true, false, List, [], ◌∷◌, ◌++◌, Option, Some, None, IfSome, arith, length, length-append, slice_index, slice_index_or, take, ap, ap₂, refl, sym, subst}
use Rattle.std.proofs.Math.Nat.{mod-lt}
use Rattle.std.proofs.Math.Seq.{get_or-append_seam}
use Rattle.std.proofs.lemmas.Bool.Decides.{nat_tests}
use Rattle.std.proofs.lemmas.List.{get_or_append_left, get_or_default, get_or-take, length-take-le}
use Rattle.go_history.specs.declared.key.Key.{Key}
use Rattle.go_history.specs.declared.entries.Entry.{Entry}
use Rattle.go_history.specs.declared.hashed.Hashed.{Hashed}
use Rattle.go_history.specs.Keys.{key_eq}
use Rattle.go_history.specs.inner.Trees.{EndsAt, IsLinkTo, IsOwn, IsTree, Leads, IsFoundAt, IsMissing, at_depth, digit_of, key_at, link_to, hash_place, hashed, hashed_eq, slot}
use Rattle.go_history.proofs.Noting.{hashed_alike, same_key}

pub digit_few : (r : Hashed) (d : ℕ) → digit_of r d < 4
unfolding digit_of
digit_few r d = mod-lt _ (omega arith)

some_same : (a b : ℕ) → let at : Option ℕ = Some a in at ≡ Some b → a ≡ b
some_same a b e = cc

-- the slot of a child is no hash's place
no_hash : (links : List ℕ) (r : Hashed) (n : ℕ) (link : Option ℕ) → link ≡ link_to links r n → (j : ℕ) →
    link ≢ Some (hash_place j)
no_hash links r zero link by j is = let bad = sym by ∙ is in cc
no_hash links r (suc n) link by j is =
    let same = some_same (slot (at_depth links r n) (digit_of r n)) (hash_place j) (sym by ∙ is) in
    let few = digit_few r n in
    omega (arith, same, few)

-- each of d steps leads to a later entry
abbrev Onward : List ℕ → Hashed → ℕ → Type 0
Onward links r d = (e : ℕ) → e < d → at_depth links r e < at_depth links r (suc e)

pub up_to : (links : List ℕ) (r : Hashed) (d : ℕ) → Onward links r d → (e : ℕ) → e ≤ d →
    at_depth links r e ≤ at_depth links r d
up_to links r zero on e le = let is : zero ≡ e = omega (arith, le) in
    subst (λ k. at_depth links r k ≤ at_depth links r zero) is (omega arith)
up_to links r (suc d) on e le =
    here (nat_lt e (suc d)) refl (λ lt. up_to links r d (λ f lt. on f (omega (arith, lt))) e (omega (arith, lt)))
  where
    here : (b : Bool) → nat_lt e (suc d) ≡ b → (e < suc d → at_depth links r e ≤ at_depth links r d) →
        at_depth links r e ≤ at_depth links r (suc d)
    here true is to =
        let low = to (grind (arith, nat_tests, is)) in
        let step = on d (omega arith) in
        omega (arith, low, step)
    here false is to = let last : suc d ≡ e = grind (arith, nat_tests, is, le) in
        subst (λ k. at_depth links r k ≤ at_depth links r (suc d)) last (omega arith)

-- a path that the written slot isn't part of
agrees : (links links' : List ℕ) (r : Hashed) (d n : ℕ) (link : Option ℕ) →
    ((k : ℕ) → k < 5 * n → link ≢ Some k → slice_index links' k ≡ slice_index links k)
    → ((e : ℕ) → e < d → at_depth links r e < n) →
    ((e : ℕ) → e < d → link ≢ Some (slot (at_depth links r e) (digit_of r e)))
    → (e : ℕ) → e ≤ d → at_depth links' r e ≡ at_depth links r e
agrees links links' r d n link same low other zero le = refl
agrees links links' r d n link same low other (suc e) le =
    let lt : e < d = omega (arith, le) in
    let at = agrees links links' r d n link same low other e (omega (arith, le)) in
    let from = low e lt in
    let few = digit_few r e in
    ap (λ x. slice_index links' (slot x (digit_of r e))) at
    ∙ same (slot (at_depth links r e) (digit_of r e)) (omega (arith, from, few)) (other e lt)

still_leads : (links links' : List ℕ) (r : Hashed) (d i n : ℕ) (link : Option ℕ) →
    ((k : ℕ) → k < 5 * n → link ≢ Some k → slice_index links' k ≡ slice_index links k)
    → i < n → ((e : ℕ) → e < d → link ≢ Some (slot (at_depth links r e) (digit_of r e))) → Leads links r d i →
    Leads links' r d i
still_leads links links' r d i n link same lt other leads =
    let low : (e : ℕ) → e < d → at_depth links r e < n = λ e le. let up =
    up_to links r d leads.onward e (omega (arith, le)) in omega (arith, up, leads.there, lt) in
    let at = agrees links links' r d n link same low other in
    record {
      there = at d (omega arith) ∙ leads.there;
      onward = λ e le. let a = at e (omega (arith, le)) in let b = at (suc e) (omega (arith, le)) in let on =
          leads.onward e le in omega (arith, a, b, on);
    }

-- the slot of its last step is the same one
still_linked : (links links' : List ℕ) (r : Hashed) (d i n : ℕ) (link : Option ℕ) →
    ((k : ℕ) → k < 5 * n → link ≢ Some k → slice_index links' k ≡ slice_index links k)
    → i < n → ((e : ℕ) → e < d → link ≢ Some (slot (at_depth links r e) (digit_of r e))) → Leads links r d i →
    link_to links r d ≡ link_to links' r d
still_linked links links' r zero i n link same lt other leads = refl
still_linked links links' r (suc d) i n link same lt other leads =
    let low : (e : ℕ) → e < suc d → at_depth links r e < n = λ e le. let up =
    up_to links r (suc d) leads.onward e (omega (arith, le)) in omega (arith, up, leads.there, lt) in
    ap (λ x. let it : Option ℕ = Some (slot x (digit_of r d)) in it)
    (sym (agrees links links' r (suc d) n link same low other d (omega arith)))

-- what holds of each entry and of one more
each_and : (P : ℕ → Entry → Type 0) (entries : List Entry) (x d : Entry) →
    ((i : ℕ) → i < length entries → P i (slice_index_or entries i d)) → P (length entries) x
    → (i : ℕ) → i < length (entries ++ x ∷ []) → P i (slice_index_or (entries ++ x ∷ []) i d)
each_and P entries x d each one i lt = here (nat_lt i (length entries)) refl
  where
    here : (b : Bool) → nat_lt i (length entries) ≡ b → P i (slice_index_or (entries ++ x ∷ []) i d)
    here true e =
        let low : i < length entries = grind (arith, nat_tests, e) in
        subst (P i) (sym (get_or_append_left entries (x ∷ []) d i low)) (each i low)
    here false e =
        let long = length-append entries (x ∷ []) in
        let last : length entries ≡ i = grind (arith, nat_tests, e, lt, long) in
        subst (λ k. P k (slice_index_or (entries ++ x ∷ []) k d)) last
        (subst (P (length entries)) (sym (get_or-append_seam entries x [] d)) one)

-- a path to an entry doesn't go by the slot where another ends
barred : (links : List ℕ) (count : ℕ) (p : Hashed) (n : ℕ) (link : Option ℕ) → EndsAt links count p n →
    link ≡ link_to links p n
    → (r : Hashed) (d i : ℕ) → i < count → Leads links r d i → (e : ℕ) → e < d →
    link ≢ Some (slot (at_depth links r e) (digit_of r e))
barred links count p zero link ends by r d i low leads e lt is = let bad = sym by ∙ is in cc
barred links count p (suc n) link ends by r d i low leads e lt is =
    let same : slot (at_depth links p n) (digit_of p n) ≡ slot (at_depth links r e) (digit_of r e) =
    some_same (slot (at_depth links p n) (digit_of p n)) (slot (at_depth links r e) (digit_of r e)) (sym by ∙ is) in
    let few = digit_few r e in
    let few' = digit_few p n in
    let from : at_depth links p n ≡ at_depth links r e = omega (arith, same, few, few') in
    let to : at_depth links p (suc n) ≡ at_depth links r (suc e) = ap (slice_index links) same in
    let step = leads.onward e lt in
    let bound = up_to links r d leads.onward (suc e) (omega (arith, lt)) in
    let out = ends.out n refl (omega (arith, from, to, step)) in
    omega (arith, out, bound, leads.there, low, to)

-- the digits of a hash that led to no entry lead to the same slot
new_link : (links links' : List ℕ) (count : ℕ) (p : Hashed) (n : ℕ) (link : Option ℕ) → EndsAt links count p n →
    link ≡ link_to links p n
    → ((k : ℕ) → k < 5 * count → link ≢ Some k → slice_index links' k ≡ slice_index links k) →
    link_to links p n ≡ link_to links' p n
new_link links links' count p zero link ends by same = refl
new_link links links' count p (suc n) link ends by same =
    let on : Onward links p n = λ e lt. ends.onward e (omega (arith, lt)) in
    let other : (e : ℕ) → e < n → link ≢ Some (slot (at_depth links p e) (digit_of p e)) = λ e lt is.
    let alike : slot (at_depth links p n) (digit_of p n) ≡ slot (at_depth links p e) (digit_of p e) =
    some_same (slot (at_depth links p n) (digit_of p n)) (slot (at_depth links p e) (digit_of p e)) (sym by ∙ is) in
    let few = digit_few p e in
    let few' = digit_few p n in
    let step = on e lt in
    let bound = up_to links p n on (suc e) (omega (arith, lt)) in
    omega (arith, alike, few, few', step, bound) in
    ap (λ x. let it : Option ℕ = Some (slot x (digit_of p n)) in it)
    (sym (agrees links links' p n count link same (λ e lt. ends.inside e (omega (arith, lt))) other n
    (omega arith)))

-- where the digits of a hash led to no entry they lead to the new one
new_leads : (links links' : List ℕ) (count : ℕ) (p : Hashed) (n : ℕ) (link : Option ℕ) → EndsAt links count p n →
    link ≡ link_to links p n
    → ((k : ℕ) → k < 5 * count → link ≢ Some k → slice_index links' k ≡ slice_index links k) →
    ((k : ℕ) → link ≡ Some k → slice_index links' k ≡ count) → Leads links' p n count
new_leads links links' count p zero link ends by same to =
    record { there = sym (ends.bare refl); onward = λ e lt. absurd (omega (arith, lt)) }
new_leads links links' count p (suc n) link ends by same to =
    let on : Onward links p n = λ e lt. ends.onward e (omega (arith, lt)) in
    let other : (e : ℕ) → e < n → link ≢ Some (slot (at_depth links p e) (digit_of p e)) = λ e lt is.
    let alike : slot (at_depth links p n) (digit_of p n) ≡ slot (at_depth links p e) (digit_of p e) =
    some_same (slot (at_depth links p n) (digit_of p n)) (slot (at_depth links p e) (digit_of p e)) (sym by ∙ is) in
    let few = digit_few p e in
    let few' = digit_few p n in
    let step = on e lt in
    let bound = up_to links p n on (suc e) (omega (arith, lt)) in
    omega (arith, alike, few, few', step, bound) in
    let at = agrees links links' p n count link same (λ e lt. ends.inside e (omega (arith, lt))) other in
    let end : at_depth links' p (suc n) ≡ count =
    ap (λ x. slice_index links' (slot x (digit_of p n))) (at n (omega arith))
    ∙ to (slot (at_depth links p n) (digit_of p n)) by in
    record {
      there = end;
      onward = λ e lt. here e lt end at on (nat_lt e n) refl;
    }
  where
    here : (e : ℕ) → e < suc n → at_depth links' p (suc n) ≡ count →
        ((e : ℕ) → e ≤ n → at_depth links' p e ≡ at_depth links p e) → Onward links p n → (b : Bool) → nat_lt e n ≡ b →
        at_depth links' p e < at_depth links' p (suc e)
    here e lt end at on true is =
        let le : e < n = grind (arith, nat_tests, is) in
        let a = at e (omega (arith, le)) in
        let b = at (suc e) (omega (arith, le)) in
        let step = on e le in
        omega (arith, a, b, step)
    here e lt end at on false is =
        let last : e ≡ n = grind (arith, nat_tests, is, lt) in
        let inside = ends.inside n (omega arith) in
        let a = at n (omega arith) in
        subst (λ k. at_depth links' p k < at_depth links' p (suc k)) (sym last) (omega (arith, a, end, inside))

-- a tree with one entry more
pub inserted : (entries : List Entry) (links links' : List ℕ) (x : Entry) (link : Option ℕ) → IsTree entries links →
    IsOwn x.hashed → IsMissing entries links x.hashed.key link
    → length links' ≡ 5 * (length entries + 1) →
    ((k : ℕ) → k < 5 * length entries → link ≢ Some k → slice_index links' k ≡ slice_index links k)
    → ((k : ℕ) → link ≡ Some k → slice_index links' k ≡ length entries) →
    slice_index links' (hash_place (length entries)) ≡ x.hashed.hash → x.link ≡ link →
    IsTree (entries ++ x ∷ []) links'
inserted entries links links' x link tree own missing sized same to hash linked =
    let n = missing.by.0 in
    let ends = missing.by.1.0 in
    let by = missing.by.1.1 in
    record {
      sized = let long = length-append entries (x ∷ []) in grind (arith, sized, long);
      hashes = λ i d. each_and (λ i e. slice_index links' (hash_place i) ≡ e.hashed.hash) entries x d
          (λ i lt. same (hash_place i) (omega (arith, lt)) (no_hash links (hashed x.hashed.key) n link by i)
          ∙ tree.hashes i d lt) hash i;
      own = λ i d. each_and (λ i e. IsOwn e.hashed) entries x d (λ i lt. tree.own i d lt) own i;
      led = λ i d. each_and (λ i e. (m : ℕ)
          × (Leads links' (hashed e.hashed.key) m i × (e.link ≡ link_to links' (hashed e.hashed.key) m))) entries x d
          (λ i lt. let led = tree.led i d lt in
          let other = barred links (length entries) (hashed x.hashed.key) n link ends by (hashed (key_at entries i d))
          led.0 i lt led.1.0 in (
            led.0,
            (
              still_leads links links' (hashed (key_at entries i d)) led.0 i (length entries) link same lt other
                  led.1.0,
              led.1.1 ∙ still_linked links links' (hashed (key_at entries i d)) led.0 i (length entries) link same lt
                  other led.1.0,
            ),
          )) (
            n,
            (
              new_leads links links' (length entries) (hashed x.hashed.key) n link ends by same to,
              linked ∙ by
                  ∙ new_link links links' (length entries) (hashed x.hashed.key) n link ends by same,
            ),
          ) i;
      apart = λ i j d low. each_and (λ i e. (j : ℕ) → j < length (entries ++ x ∷ []) →
          key_eq e.hashed.key (key_at (entries ++ x ∷ []) j d) ≡ true → i ≡ j) entries x d
          (λ i lt. each_and (λ j f. key_eq (key_at entries i d) f.hashed.key ≡ true → i ≡ j) entries x d
          (λ j lt'. tree.apart i j d lt lt') (λ alike. absurd
          (let is = same_key (key_at entries i d) x.hashed.key alike in
          let bad = sym (missing.none i d lt) ∙ ap (λ k. key_eq k (key_at entries i d)) (sym is)
          ∙ ap (λ k. key_eq (key_at entries i d) k) is ∙ alike in cc)))
          (each_and (λ j f. key_eq x.hashed.key f.hashed.key ≡ true → length entries ≡ j) entries x d
          (λ j lt alike. absurd (let bad = sym (missing.none j d lt) ∙ alike in cc)) (λ alike. refl)) i low j;
    }

-- a tree without its last entry
pub pruned : (entries : List Entry) (links links' : List ℕ) (link : Option ℕ) → IsTree entries links →
    0 < length entries → IfSome link (λ p. IsLinkTo links p (length entries - 1))
    → length links' ≡ 5 * (length entries - 1) → length (take (length entries - 1) entries) ≡ length entries - 1
    → ((k : ℕ) → k < 5 * (length entries - 1) → link ≢ Some k → slice_index links' k ≡ slice_index links k) →
    IsTree (take (length entries - 1) entries) links'
pruned entries links links' link tree some leads sized long same =
    let n = length entries - 1 in
    let at : (i : ℕ) (d : Entry) → i < length (take n entries) →
    slice_index_or (take n entries) i d ≡ slice_index_or entries i d = λ i d lt.
    get_or-take n entries i d (omega (arith, lt, long)) in
    let low : (i : ℕ) → i < length (take n entries) → i < length entries = λ i lt. omega (arith, lt, long) in
    record {
      sized = omega (arith, sized, long);
      hashes = λ i d lt. same (hash_place i) (omega (arith, lt, long)) (apart_of i link leads)
          ∙ tree.hashes i d (low i lt) ∙ ap (λ (e : Entry). e.hashed.hash) (sym (at i d lt));
      own = λ i d lt. subst (λ (e : Entry). IsOwn e.hashed) (sym (at i d lt)) (tree.own i d (low i lt));
      led = λ i d lt. let led = tree.led i d (low i lt) in
          let other : (e : ℕ) → e < led.0 →
          link ≢ Some (slot (at_depth links (hashed (key_at entries i d)) e)
          (digit_of (hashed (key_at entries i d)) e)) =
          λ e le is. apart_from i d (omega (arith, lt, long)) led.0 led.1.0 e le link is leads in
          subst (λ (e : Entry). (m : ℕ) × (Leads links' (hashed e.hashed.key) m i
          × (e.link ≡ link_to links' (hashed e.hashed.key) m))) (sym (at i d lt)) (
            led.0,
            (
              still_leads links links' (hashed (key_at entries i d)) led.0 i n link same (omega (arith, lt, long)) other
                  led.1.0,
              led.1.1 ∙ still_linked links links' (hashed (key_at entries i d)) led.0 i n link same
                  (omega (arith, lt, long)) other led.1.0,
            ),
          );
      apart = λ i j d lt lt' alike. tree.apart i j d (low i lt) (low j lt')
          (ap₂ (λ (e f : Entry). key_eq e.hashed.key f.hashed.key) (sym (at i d lt)) (sym (at j d lt')) ∙ alike);
    }
  where
    apart_of : (i : ℕ) (link : Option ℕ) → IfSome link (λ p. IsLinkTo links p (length entries - 1)) →
        link ≢ Some (hash_place i)
    apart_of i None leads is = let bad = is in cc
    apart_of i (Some p) leads is = leads.no_hash i (some_same p (hash_place i) is)

    apart_from : (i : ℕ) (d : Entry) → i < length entries - 1 → (m : ℕ) →
        Leads links (hashed (key_at entries i d)) m i → (e : ℕ) → e < m → (link : Option ℕ)
        → link ≡ Some (slot (at_depth links (hashed (key_at entries i d)) e)
        (digit_of (hashed (key_at entries i d)) e)) → IfSome link (λ p. IsLinkTo links p (length entries - 1)) → ⊥
    apart_from i d lt m led e le None is leads = let bad = is in cc
    apart_from i d lt m led e le (Some p) is leads =
        let r = hashed (key_at entries i d) in
        let to : slice_index links p ≡ at_depth links r (suc e) =
        ap (slice_index links) (some_same p (slot (at_depth links r e) (digit_of r e)) is) in
        let bound = up_to links r m led.onward (suc e) (omega (arith, le)) in
        omega (arith, to, leads.to, bound, led.there, lt)

-- a key that no entry of its path has is at none
pub key_missing : (entries : List Entry) (links : List ℕ) (k : Key) (n : ℕ) → IsTree entries links
    → ((e : ℕ) (x : Entry) → e < n →
    hashed_eq (hashed k) (slice_index_or entries (at_depth links (hashed k) e) x).hashed ≡ false)
    → ((m i : ℕ) → Leads links (hashed k) m i → i < length entries → n ≤ m → ⊥)
    → (i : ℕ) (d : Entry) → i < length entries → key_eq k (key_at entries i d) ≡ false
key_missing entries links k n tree passed stop i d lt = here (key_eq k (key_at entries i d)) refl
  where
    at_path : (m : ℕ) → Leads links (hashed k) m i → key_eq k (key_at entries i d) ≡ true → (b : Bool) →
        nat_lt m n ≡ b → ⊥
    at_path m leads same true e =
        let no = ap (λ j. hashed_eq (hashed k) (slice_index_or entries j d).hashed) (sym leads.there)
        ∙ passed m d (grind (arith, nat_tests, e)) in
        let is = same_key k (key_at entries i d) same in
        let yes = ap (hashed_eq (hashed k)) (tree.own i d lt) ∙ hashed_alike k (key_at entries i d) ∙ same in
        let bad = sym no ∙ yes in cc
    at_path m leads same false e = stop m i leads lt (grind (arith, nat_tests, e))

    here : (b : Bool) → key_eq k (key_at entries i d) ≡ b → b ≡ false
    here false e = refl
    here true e = absurd (let led = tree.led i d lt in
        at_path led.0 (subst (λ key. Leads links (hashed key) led.0 i) (sym (same_key k (key_at entries i d) e))
        led.1.0) e (nat_lt led.0 n) refl)

-- d steps led to entry `at`, the last by this slot, and none of the entries before it has the key
pub record Went (entries : List Entry) (links : List ℕ) (r : Hashed) (d at : ℕ) (link : Option ℕ) : Type 0 where
  pub there : at_depth links r d ≡ at
  pub deep : d ≤ at
  pub onward : Onward links r d
  pub inside : (e : ℕ) → e < d → at_depth links r e < length entries
  pub passed : (e : ℕ) (x : Entry) → e < d → hashed_eq r (slice_index_or entries (at_depth links r e) x).hashed ≡ false
  pub by : link ≡ link_to links r d

-- where the slot has no child, and where there is no entry
pub stops_at : (entries : List Entry) (links : List ℕ) (r : Hashed) (d at : ℕ) (link : Option ℕ) → IsOwn r →
    IsTree entries links → Went entries links r d at link → at < length entries
    → ((x : Entry) → hashed_eq r (slice_index_or entries at x).hashed ≡ false) →
    slice_index links (slot at (digit_of r d)) ≤ at →
    IsMissing entries links r.key (Some (slot at (digit_of r d)))
stops_at entries links r d at link own tree went lt here end =
    let r' = hashed r.key in
    let w : Went entries links r' d at link = subst (λ (s : Hashed). Went entries links s d at link) own went in
    let here' : (x : Entry) → hashed_eq r' (slice_index_or entries at x).hashed ≡ false =
    subst (λ (s : Hashed). (x : Entry) → hashed_eq s (slice_index_or entries at x).hashed ≡ false) own here in
    let end' : slice_index links (slot at (digit_of r' d)) ≤ at =
    subst (λ (s : Hashed). slice_index links (slot at (digit_of s d)) ≤ at) own end in
    let to : at_depth links r' (suc d) ≡ slice_index links (slot at (digit_of r' d)) =
    ap (λ k. slice_index links (slot k (digit_of r' d))) w.there in
    record {
      none = key_missing entries links r.key (suc d) tree (λ e x le. until e x le w here' (nat_lt e d) refl)
          (λ m i leads low le. let step = leads.onward d (omega (arith, le)) in omega (arith, step, to, end', w.there));
      by = (
        suc d,
        (
          record {
            onward = λ e le. w.onward e (omega (arith, le));
            inside = λ e le. under e le w (nat_lt e d) refl;
            out = λ e is up. absurd (let at = is in here_only e is up to end' w.there);
            bare = λ is. absurd (omega (arith, is));
          },
          ap (λ (s : Hashed). let it : Option ℕ = Some (slot at (digit_of s d)) in it) own
              ∙ ap (λ k. let it : Option ℕ = Some (slot k (digit_of r' d)) in it) (sym w.there),
        ),
      );
    }
  where
    until : (e : ℕ) (x : Entry) → e < suc d → Went entries links (hashed r.key) d at link →
        ((x : Entry) → hashed_eq (hashed r.key) (slice_index_or entries at x).hashed ≡ false)
        → (b : Bool) → nat_lt e d ≡ b →
        hashed_eq (hashed r.key) (slice_index_or entries (at_depth links (hashed r.key) e) x).hashed ≡ false
    until e x le w here' true is = w.passed e x (grind (arith, nat_tests, is))
    until e x le w here' false is =
        let last : d ≡ e = grind (arith, nat_tests, is, le) in
        ap (λ k. hashed_eq (hashed r.key) (slice_index_or entries (at_depth links (hashed r.key) k) x).hashed)
        (sym last) ∙ ap (λ k. hashed_eq (hashed r.key) (slice_index_or entries k x).hashed) w.there ∙ here' x

    under : (e : ℕ) → e < suc d → Went entries links (hashed r.key) d at link → (b : Bool) → nat_lt e d ≡ b →
        at_depth links (hashed r.key) e < length entries
    under e le w true is = w.inside e (grind (arith, nat_tests, is))
    under e le w false is =
        let last : d ≡ e = grind (arith, nat_tests, is, le) in
        subst (λ k. at_depth links (hashed r.key) k < length entries) last
        (let there = w.there in omega (arith, there, lt))

    here_only : (e : ℕ) → suc d ≡ suc e → at_depth links (hashed r.key) e < at_depth links (hashed r.key) (suc d) →
        at_depth links (hashed r.key) (suc d) ≡ slice_index links (slot at (digit_of (hashed r.key) d))
        → slice_index links (slot at (digit_of (hashed r.key) d)) ≤ at → at_depth links (hashed r.key) d ≡ at → ⊥
    here_only e is up to end there =
        let same : d ≡ e = omega (arith, is) in
        let up' = subst (λ k. at_depth links (hashed r.key) k < at_depth links (hashed r.key) (suc d)) (sym same) up in
        omega (arith, up', to, end, there)

pub runs_out : (entries : List Entry) (links : List ℕ) (r : Hashed) (d at : ℕ) (link : Option ℕ) → IsOwn r →
    IsTree entries links → Went entries links r d at link → length entries ≤ at
    → IsMissing entries links r.key link
runs_out entries links r d at link own tree went out =
    let w : Went entries links (hashed r.key) d at link =
    subst (λ (s : Hashed). Went entries links s d at link) own went in
    record {
      none = key_missing entries links r.key d tree w.passed
          (λ m i leads low le. let up = up_to links (hashed r.key) m leads.onward d le in
          omega (arith, up, leads.there, w.there, low, out));
      by = (
        d,
        (
          record {
            onward = λ e le. w.onward e (omega (arith, le));
            inside = w.inside;
            out = λ e is up. omega (arith, w.there, out);
            bare = λ is. let low = w.deep in let root : at_depth links (hashed r.key) d ≡ 0 =
                ap (at_depth links (hashed r.key)) is in omega (arith, root, w.there, out);
          },
          w.by,
        ),
      );
    }

-- the same, as it is made
pub inserted_by : (entries : List Entry) (links longer links' : List ℕ) (x : Entry) (link : Option ℕ) →
    IsTree entries links → IsOwn x.hashed → IsMissing entries links x.hashed.key link
    → longer ≡ links ++ x.hashed.hash ∷ 0 ∷ 0 ∷ 0 ∷ 0 ∷ [] → length links' ≡ length longer →
    ((k : ℕ) → link ≢ Some k → slice_index links' k ≡ slice_index longer k)
    → ((k : ℕ) → link ≡ Some k → slice_index links' k ≡ length entries) → x.link ≡ link →
    IsTree (entries ++ x ∷ []) links'
inserted_by entries links longer links' x link tree own missing is long others to linked =
    let more = ap length is ∙ length-append links (x.hashed.hash ∷ 0 ∷ 0 ∷ 0 ∷ 0 ∷ []) in
    let seam : slice_index longer (length links) ≡ x.hashed.hash =
    ap (λ (ls : List ℕ). slice_index ls (length links)) is
    ∙ get_or-append_seam links x.hashed.hash (0 ∷ 0 ∷ 0 ∷ 0 ∷ []) 0 in
    let place : hash_place (length entries) ≡ length links = omega (arith, tree.sized) in
    let hash = others (hash_place (length entries))
    (no_hash links (hashed x.hashed.key) missing.by.0 link missing.by.1.1 (length entries))
    ∙ ap (slice_index longer) place ∙ seam in
    inserted entries links links' x link tree own missing (omega (arith, long, more, tree.sized))
    (λ k lt other. others k other ∙ ap (λ (ls : List ℕ). slice_index ls k) is
    ∙ get_or_append_left links (x.hashed.hash ∷ 0 ∷ 0 ∷ 0 ∷ 0 ∷ []) 0 k (omega (arith, lt, tree.sized))) to hash
    linked

-- the slot that is to lead to a new entry is one of the old ones
pub link_within : (entries : List Entry) (links : List ℕ) (k : Key) (link : Option ℕ) (count : ℕ) →
    length links ≤ count → IsTree entries links → IsMissing entries links k link → IfSome link (λ slot. slot < count)
link_within entries links k link count long tree missing = here missing.by.0 missing.by.1.0 link missing.by.1.1
  where
    here : (n : ℕ) → EndsAt links (length entries) (hashed k) n → (link : Option ℕ) →
        link ≡ link_to links (hashed k) n → IfSome link (λ slot. slot < count)
    here zero ends None by = tt
    here zero ends (Some w) by = absurd (let bad = by in cc)
    here (suc n) ends None by = tt
    here (suc n) ends (Some w) by =
        let is : w ≡ slot (at_depth links (hashed k) n) (digit_of (hashed k) n) =
        some_same w (slot (at_depth links (hashed k) n) (digit_of (hashed k) n)) by in
        let low = ends.inside n (omega arith) in
        let few = digit_few (hashed k) n in
        omega (arith, is, low, few, tree.sized, long)

-- the slot that leads to the last entry
pub link_to_last : (entries : List Entry) (links : List ℕ) (at : ℕ) (link : Option ℕ) → IsTree entries links →
    0 < length entries → at ≡ length entries - 1 → ((d : Entry) → link ≡ (slice_index_or entries at d).link) →
    IfSome link (λ p. IsLinkTo links p (length entries - 1))
link_to_last [] links at link tree some last is = absurd (omega (arith, some))
link_to_last (e ∷ entries) links at link tree some last is =
    let i = length (e ∷ entries) - 1 in
    let led = tree.led i e (omega arith) in
    let same : link ≡ (slice_index_or (e ∷ entries) i e).link = is e
    ∙ ap (λ k. (slice_index_or (e ∷ entries) k e).link) last in
    here i (key_at (e ∷ entries) i e) led.0 led.1.0 link (same ∙ led.1.1)
  where
    here : (i : ℕ) (k : Key) (n : ℕ) → Leads links (hashed k) n i → (link : Option ℕ) →
        link ≡ link_to links (hashed k) n → IfSome link (λ p. IsLinkTo links p i)
    here i k zero leads None by = tt
    here i k zero leads (Some s) by = absurd (let bad = by in cc)
    here i k (suc n) leads None by = tt
    here i k (suc n) leads (Some s) by =
        let is : s ≡ slot (at_depth links (hashed k) n) (digit_of (hashed k) n) =
        some_same s (slot (at_depth links (hashed k) n) (digit_of (hashed k) n)) by in
        let to : slice_index links s ≡ at_depth links (hashed k) (suc n) = ap (slice_index links) is in
        let up = leads.onward n (omega arith) in
        let few = digit_few (hashed k) n in
        record {
          before = omega (arith, is, up, few, leads.there);
          no_hash = λ j same. omega (arith, is, few, same);
          to = omega (arith, to, leads.there);
        }

-- that slot is one of the links
pub last_within : (entries : List Entry) (links : List ℕ) (link : Option ℕ) → IsTree entries links →
    0 < length entries →
    IfSome link (λ p. IsLinkTo links p (length entries - 1)) → IfSome link (λ p. p < length links)
last_within entries links None tree some leads = tt
last_within entries links (Some p) tree some leads = omega (arith, some, leads.before, tree.sized)

-- the tree without its last entry, as it is made
pub pruned_by : (entries : List Entry) (links led links' : List ℕ) (link : Option ℕ) → IsTree entries links →
    0 < length entries → IfSome link (λ p. IsLinkTo links p (length entries - 1))
    → length led ≡ length links → ((k : ℕ) → link ≢ Some k → slice_index led k ≡ slice_index links k) →
    links' ≡ take (5 * (length entries - 1)) led → IsTree (take (length entries - 1) entries) links'
pruned_by entries links led links' link tree some leads long others is =
    let short : length (take (5 * (length entries - 1)) led) ≡ 5 * (length entries - 1) =
    length-take-le (5 * (length entries - 1)) led (omega (arith, long, tree.sized, some)) in
    let short' = ap length is in
    pruned entries links links' link tree some leads (omega (arith, short, short'))
    (length-take-le (length entries - 1) entries (omega (arith, some)))
    (λ k lt other. ap (λ (ls : List ℕ). slice_index ls k) is ∙ get_or-take (5 * (length entries - 1)) led k 0 lt
    ∙ others k other)

-- the last entry, by its own slot
pub last_found : (entries : List Entry) (links : List ℕ) (k : Key) (d : Entry) → IsTree entries links →
    0 < length entries → key_eq k (key_at entries (length entries - 1) d) ≡ true
    → IsFoundAt entries links k (length entries - 1) (slice_index_or entries (length entries - 1) d).link
last_found entries links k d tree some same =
    let i = length entries - 1 in
    let low : i < length entries = omega (arith, some) in
    let led = tree.led i d low in
    let key = same_key k (key_at entries i d) same in
    record {
      within = low;
      same = λ f. ap (λ (e : Entry). key_eq k e.hashed.key) (get_or_default entries i f d low) ∙ same;
      by = subst (λ r. (n : ℕ) × (Leads links (hashed r) n i
          × ((slice_index_or entries i d).link ≡ link_to links (hashed r) n))) (sym key) led;
    }
