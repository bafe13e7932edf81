-- What the entries of a tree note of each key, also once one was added, written or taken away.
use Rattle.std.specs.Map.{lookup}
use Rattle.std.specs.Option.{option_or}
use Rattle.std.proofs.Common.{◌≡◌, ◌<◌, ◌+◌, ◌∙◌, ℕ, zero, suc, Bool, true, false, cond, List, [], ◌∷◌, ◌++◌, Option, Some, None, arith, length, length-set, slice_index_or, slice_set, take, ap, ap₂, refl, sym, subst}
use Rattle.std.proofs.lemmas.List.{get_or-set_same, get_or-take, length-take-le, take_all, take_more}
use Rattle.go_history.specs.declared.key.Key.{Key}
use Rattle.go_history.specs.declared.entries.Entry.{Entry}
use Rattle.go_history.specs.declared.hashed.Hashed.{Hashed}
use Rattle.go_history.specs.Keys.{key_eq}
use Rattle.go_history.specs.inner.Trees.{IsOwn, IsTree, Leads, IsFoundAt, IsMissing, key_at, link_to, noted, noted_by, hashed}
use Rattle.go_history.proofs.Noting.{lookup-append, same_key}

abbrev at_key : Key → List Entry → Option ℕ
at_key k entries = lookup (key_eq k) (noted entries)

or_none : (o : Option ℕ) → option_or o None ≡ o
or_none None = refl
or_none (Some n) = refl

-- what one entry notes of a key
by_one : (k key : Key) (number : Option ℕ) → lookup (key_eq k) (noted_by key number) ≡ cond (key_eq k key) number None
by_one k key None = here (key_eq k key)
  where
    here : (b : Bool) → let none : Option ℕ = None in none ≡ cond b none none
    here true = refl
    here false = refl
by_one k key (Some n) = refl

at_first : (k : Key) (e : Entry) (entries : List Entry) →
    at_key k (e ∷ entries) ≡ option_or (cond (key_eq k e.hashed.key) e.number None) (at_key k entries)
at_first k e entries = lookup-append (key_eq k) (noted_by e.hashed.key e.number) (noted entries)
    ∙ ap (λ o. option_or o (at_key k entries)) (by_one k e.hashed.key e.number)

past : (k : Key) (e : Entry) (entries : List Entry) → key_eq k e.hashed.key ≡ false →
    at_key k (e ∷ entries) ≡ at_key k entries
past k e entries other = at_first k e entries ∙ ap (λ b. option_or (cond b e.number None) (at_key k entries)) other

pub at_none : (k : Key) (entries : List Entry) →
    ((i : ℕ) (d : Entry) → i < length entries → key_eq k (key_at entries i d) ≡ false) → at_key k entries ≡ None
at_none k [] none = refl
at_none k (e ∷ entries) none = past k e entries (none zero e (omega arith))
    ∙ at_none k entries (λ i d lt. none (suc i) d (omega (arith, lt)))

no_other : (i : ℕ) → suc i ≡ zero → ⊥
no_other i e = cc

pub at_entry : (k : Key) (entries : List Entry) (i : ℕ) (d : Entry) → i < length entries →
    key_eq k (key_at entries i d) ≡ true
    → ((j : ℕ) (d : Entry) → j < length entries → key_eq k (key_at entries j d) ≡ true → j ≡ i) →
    at_key k entries ≡ (slice_index_or entries i d).number
at_entry k [] i d lt same alone = absurd (omega (arith, lt))
at_entry k (e ∷ entries) zero d lt same alone =
    at_first k e entries ∙ ap₂ (λ b o. option_or (cond b e.number None) o) same
    (at_none k entries (λ j f low. here j f low (key_eq k (key_at entries j f)) refl)) ∙ or_none e.number
  where
    here : (j : ℕ) (f : Entry) → j < length entries → (b : Bool) → key_eq k (key_at entries j f) ≡ b → b ≡ false
    here j f low false is = refl
    here j f low true is = absurd (no_other j (alone (suc j) f (omega (arith, low)) is))
at_entry k (e ∷ entries) (suc i) d lt same alone =
    past k e entries (here (key_eq k e.hashed.key) refl)
    ∙ at_entry k entries i d (omega (arith, lt)) same
    (λ j f low is. let step = alone (suc j) f (omega (arith, low)) is in omega (arith, step))
  where
    here : (b : Bool) → key_eq k e.hashed.key ≡ b → b ≡ false
    here false is = refl
    here true is = absurd (no_other i (sym (alone zero e (omega arith) is)))

-- one entry more
pub at_more : (k : Key) (entries : List Entry) (x : Entry) →
    at_key k (entries ++ x ∷ []) ≡ option_or (at_key k entries) (cond (key_eq k x.hashed.key) x.number None)
at_more k [] x = at_first k x [] ∙ or_none (cond (key_eq k x.hashed.key) x.number None)
at_more k (e ∷ entries) x = at_first k e (entries ++ x ∷ [])
    ∙ here (cond (key_eq k e.hashed.key) e.number None) (at_more k entries x)
    ∙ ap (λ o. option_or o (cond (key_eq k x.hashed.key) x.number None)) (sym (at_first k e entries))
  where
    here : (o : Option ℕ) → at_key k (entries ++ x ∷ []) ≡ option_or (at_key k entries)
        (cond (key_eq k x.hashed.key) x.number None)
        → option_or o (at_key k (entries ++ x ∷ [])) ≡ option_or (option_or o (at_key k entries))
        (cond (key_eq k x.hashed.key) x.number None)
    here None rest = rest
    here (Some n) rest = refl

pub noted_more : (entries : List Entry) (x : Entry) (n : ℕ) → x.number ≡ Some n → at_key x.hashed.key entries ≡ None
    → (q : Key) → at_key q (entries ++ x ∷ []) ≡ cond (key_eq x.hashed.key q) (Some n) (at_key q entries)
noted_more entries x n is none q = at_more q entries x ∙ here (key_eq x.hashed.key q) refl
  where
    there : (b : Bool) → key_eq q x.hashed.key ≡ b → key_eq x.hashed.key q ≡ false →
        option_or (at_key q entries) (cond b x.number None) ≡ at_key q entries
    there false e other = or_none (at_key q entries)
    there true e other = absurd (let key = same_key q x.hashed.key e in let bad = sym other
        ∙ ap (λ k. key_eq k q) (sym key) ∙ ap (key_eq q) key ∙ e in cc)

    here : (b : Bool) → key_eq x.hashed.key q ≡ b →
        option_or (at_key q entries) (cond (key_eq q x.hashed.key) x.number None) ≡ cond b (Some n) (at_key q entries)
    here true e =
        let key = same_key x.hashed.key q e in
        ap₂ (λ o b. option_or o (cond b x.number None)) (ap (λ k. at_key k entries) (sym key) ∙ none)
        (ap (λ k. key_eq q k) key ∙ ap (λ k. key_eq k q) (sym key) ∙ e) ∙ is
    here false e = there (key_eq q x.hashed.key) refl e

-- an entry with another number
written : (entries : List Entry) (i : ℕ) (x d : Entry) → x.hashed ≡ (slice_index_or entries i d).hashed →
    (j : ℕ) (f : Entry) → i < length entries →
    (slice_index_or (slice_set entries i x) j f).hashed ≡ (slice_index_or entries j f).hashed
written [] i x d same j f lt = absurd (omega (arith, lt))
written (e ∷ entries) zero x d same zero f lt = same
written (e ∷ entries) zero x d same (suc j) f lt = refl
written (e ∷ entries) (suc i) x d same zero f lt = refl
written (e ∷ entries) (suc i) x d same (suc j) f lt = written entries i x d same j f (omega (arith, lt))

written_link : (entries : List Entry) (i : ℕ) (x d : Entry) → x.link ≡ (slice_index_or entries i d).link →
    (j : ℕ) (f : Entry) → i < length entries →
    (slice_index_or (slice_set entries i x) j f).link ≡ (slice_index_or entries j f).link
written_link [] i x d same j f lt = absurd (omega (arith, lt))
written_link (e ∷ entries) zero x d same zero f lt = same
written_link (e ∷ entries) zero x d same (suc j) f lt = refl
written_link (e ∷ entries) (suc i) x d same zero f lt = refl
written_link (e ∷ entries) (suc i) x d same (suc j) f lt = written_link entries i x d same j f (omega (arith, lt))

pub tree_written : (entries : List Entry) (links : List ℕ) (i : ℕ) (x d : Entry) → i < length entries →
    x.hashed ≡ (slice_index_or entries i d).hashed → x.link ≡ (slice_index_or entries i d).link → IsTree entries links →
    IsTree (slice_set entries i x) links
tree_written entries links i x d lt same linked tree =
    let long : length (slice_set entries i x) ≡ length entries = length-set entries i x in
    let at : (j : ℕ) (f : Entry) → (slice_index_or (slice_set entries i x) j f).hashed ≡
    (slice_index_or entries j f).hashed = λ j f. written entries i x d same j f lt in
    record {
      sized = omega (arith, long, tree.sized);
      hashes = λ j f low. tree.hashes j f (omega (arith, low, long)) ∙ ap (λ (r : Hashed). r.hash) (sym (at j f));
      own = λ j f low. subst IsOwn (sym (at j f)) (tree.own j f (omega (arith, low, long)));
      led = λ j f low. let led = tree.led j f (omega (arith, low, long)) in
          subst (λ r. (m : ℕ) × (Leads links (hashed r.key) m j
          × ((slice_index_or (slice_set entries i x) j f).link ≡ link_to links (hashed r.key) m))) (sym (at j f))
          (led.0, (led.1.0, written_link entries i x d linked j f lt ∙ led.1.1));
      apart = λ j k f low low' alike.
          tree.apart j k f (omega (arith, low, long)) (omega (arith, low', long))
          (ap₂ (λ r s. key_eq r.key s.key) (sym (at j f)) (sym (at k f)) ∙ alike);
    }

at_other : (q : Key) (entries : List Entry) (i : ℕ) (x d : Entry) → i < length entries →
    x.hashed ≡ (slice_index_or entries i d).hashed → key_eq q x.hashed.key ≡ false →
    at_key q (slice_set entries i x) ≡ at_key q entries
at_other q [] i x d lt same other = absurd (omega (arith, lt))
at_other q (e ∷ entries) zero x d lt same other = past q x entries other
    ∙ sym (past q e entries (ap (λ r. key_eq q r.key) (sym same) ∙ other))
at_other q (e ∷ entries) (suc i) x d lt same other =
    at_first q e (slice_set entries i x)
    ∙ ap (option_or (cond (key_eq q e.hashed.key) e.number None))
    (at_other q entries i x d (omega (arith, lt)) same other) ∙ sym (at_first q e entries)

pub noted_written : (entries : List Entry) (links : List ℕ) (p : Key) (i : ℕ) (x d : Entry) → IsTree entries links →
    i < length entries → x.hashed ≡ (slice_index_or entries i d).hashed → x.link ≡ (slice_index_or entries i d).link
    → key_eq p x.hashed.key ≡ true → (q : Key) →
    at_key q (slice_set entries i x) ≡ cond (key_eq p q) x.number (at_key q entries)
noted_written entries links p i x d tree lt same linked alike q = here (key_eq p q) refl
  where
    key : p ≡ x.hashed.key
    key = same_key p x.hashed.key alike

    there : (b : Bool) → key_eq q x.hashed.key ≡ b → key_eq p q ≡ false →
        at_key q (slice_set entries i x) ≡ at_key q entries
    there false e other = at_other q entries i x d lt same e
    there true e other = absurd (let to : p ≡ q = key ∙ sym (same_key q x.hashed.key e) in let bad = sym other
        ∙ ap (key_eq p) (sym to) ∙ ap (key_eq p) key ∙ alike in cc)

    here : (b : Bool) → key_eq p q ≡ b → at_key q (slice_set entries i x) ≡ cond b x.number (at_key q entries)
    here true e =
        let long : length (slice_set entries i x) ≡ length entries = length-set entries i x in
        let tree' = tree_written entries links i x d lt same linked tree in
        let low : i < length (slice_set entries i x) = omega (arith, long, lt) in
        let read : slice_index_or (slice_set entries i x) i d ≡ x = get_or-set_same entries i x d lt in
        let own : q ≡ (slice_index_or (slice_set entries i x) i d).hashed.key = sym (same_key p q e) ∙ key
        ∙ ap (λ (f : Entry). f.hashed.key) (sym read) in
        let is : key_eq q (key_at (slice_set entries i x) i d) ≡ true = ap (λ (f : Entry). key_eq q f.hashed.key) read
        ∙ ap (λ k. key_eq k x.hashed.key) (sym (same_key p q e)) ∙ alike in
        at_entry q (slice_set entries i x) i d low is (λ j f lt' like. tree'.apart j i f lt' low
        (let one = same_key q (key_at (slice_set entries i x) j f) like in
        let two : q ≡ key_at (slice_set entries i x) i f = sym (same_key p q e) ∙ key
        ∙ ap (λ (f : Entry). f.hashed.key) (sym (get_or-set_same entries i x f lt)) in
        ap₂ key_eq (sym one) (sym two) ∙ ap (key_eq q) one ∙ like))
        ∙ ap (λ (f : Entry). f.number) read
    here false e = there (key_eq q x.hashed.key) refl e

-- no other entry has the key
alone : (entries : List Entry) (links : List ℕ) (p : Key) (i : ℕ) → IsTree entries links → i < length entries →
    ((d : Entry) → key_eq p (key_at entries i d) ≡ true)
    → (j : ℕ) (f : Entry) → j < length entries → key_eq p (key_at entries j f) ≡ true → j ≡ i
alone entries links p i tree lt same j f low like =
    let one = same_key p (key_at entries j f) like in
    let two = same_key p (key_at entries i f) (same f) in
    tree.apart j i f low lt (ap₂ key_eq (sym one) (sym two) ∙ ap (key_eq p) one ∙ like)

-- the number of an entry that was found, and of a key that has none
pub number_is : (entries : List Entry) (links : List ℕ) (p : Key) (i : ℕ) (link : Option ℕ) (d : Entry) →
    IsTree entries links → IsFoundAt entries links p i link → (slice_index_or entries i d).number ≡ at_key p entries
number_is entries links p i link d tree found =
    sym (at_entry p entries i d found.within (found.same d) (alone entries links p i tree found.within found.same))

pub nothing_is : (entries : List Entry) (links : List ℕ) (p : Key) (link : Option ℕ) →
    IsMissing entries links p link → let none : Option ℕ = None in none ≡ at_key p entries
nothing_is entries links p link missing = sym (at_none p entries missing.none)

pub none_taken : (entries : List Entry) (links : List ℕ) (p : Key) (link : Option ℕ) →
    IsMissing entries links p link → (q : Key) → at_key q entries ≡ cond (key_eq p q) None (at_key q entries)
none_taken entries links p link missing q = here (key_eq p q) refl
  where
    here : (b : Bool) → key_eq p q ≡ b → at_key q entries ≡ cond b None (at_key q entries)
    here true e = ap (λ k. at_key k entries) (sym (same_key p q e)) ∙ at_none p entries missing.none
    here false e = refl

-- without the last entry
pub noted_less : (entries : List Entry) (links : List ℕ) (p : Key) (i : ℕ) (link : Option ℕ) (d : Entry) →
    IsTree entries links → IsFoundAt entries links p i link → i + 1 ≡ length entries
    → (q : Key) → at_key q (take i entries) ≡ cond (key_eq p q) None (at_key q entries)
noted_less entries links p i link d tree found last q = here (key_eq p q) refl
  where
    x : Entry
    x = slice_index_or entries i d

    whole : entries ≡ take i entries ++ x ∷ []
    whole = sym (take_all (i + 1) entries (omega (arith, last))) ∙ take_more entries i d found.within

    long : length (take i entries) ≡ i
    long = length-take-le i entries (omega (arith, last))

    split : at_key q entries ≡ option_or (at_key q (take i entries)) (cond (key_eq q x.hashed.key) x.number None)
    split = ap (at_key q) whole ∙ at_more q (take i entries) x

    other : (j : ℕ) (f : Entry) → j < length (take i entries) → (b : Bool) →
        key_eq p (key_at (take i entries) j f) ≡ b → b ≡ false
    other j f low false e = refl
    other j f low true e = absurd (let at =
        alone entries links p i tree found.within found.same j f (omega (arith, low, long, last))
        (ap (λ (g : Entry). key_eq p g.hashed.key) (sym (get_or-take i entries j f (omega (arith, low, long))))
        ∙ e) in omega (arith, at, low, long))

    there : (b : Bool) → key_eq q x.hashed.key ≡ b → key_eq p q ≡ false → at_key q (take i entries) ≡ at_key q entries
    there false e differs = sym (split ∙ ap (λ b. option_or (at_key q (take i entries)) (cond b x.number None)) e
        ∙ or_none (at_key q (take i entries)))
    there true e differs = absurd (let to : p ≡ q = same_key p x.hashed.key (found.same d)
        ∙ sym (same_key q x.hashed.key e) in let bad = sym differs ∙ ap (key_eq p) (sym to)
        ∙ ap (key_eq p) (same_key p x.hashed.key (found.same d)) ∙ found.same d in cc)

    here : (b : Bool) → key_eq p q ≡ b → at_key q (take i entries) ≡ cond b None (at_key q entries)
    here true e = ap (λ k. at_key k (take i entries)) (sym (same_key p q e))
        ∙ at_none p (take i entries) (λ j f low. other j f low (key_eq p (key_at (take i entries) j f)) refl)
    here false e = there (key_eq q x.hashed.key) refl e
