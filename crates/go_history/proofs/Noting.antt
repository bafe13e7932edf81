-- What is noted of the keys, by their own test, and once a number that was written over is put back.
use Rattle.std.specs.declared.result.Result.{Result}
use Rattle.std.specs.Map.{lookup}
use Rattle.std.proofs.lemmas.Bool.{and_parts}
use Rattle.std.specs.Option.{option_eq, option_or}
use Rattle.std.proofs.Common.{◌≡◌, nat_eq, ◌&&◌, ◌∙◌, ℕ, Bool, true, false, cond, List, [], ◌∷◌, ◌++◌, Option, Some, None, Ok, Err, IfOk, arith, ap, ap₂, refl, sym}
use Rattle.std.proofs.lemmas.Bool.Decides.{nat_tests}
use Rattle.std.proofs.lemmas.Slice.Eq.{bytes_eq-Decides}
use Rattle.go_board.specs.declared.colour.Colour.{Colour}
use Rattle.go_board.specs.declared.colour.Colour.TheVariants.{Black, White}
use Rattle.go_board.specs.Reaching.{is_same}
use Rattle.go_history.specs.declared.key.Key.{Key}
use Rattle.go_history.specs.Keys.{key_eq}
use Rattle.go_history.specs.Histories.{HistoryValue, later_at, number_at, without}
use Rattle.go_history.specs.inner.Trees.{hashed, hashed_eq}
use Rattle.go_history.specs.contracts.key.KeyPartialEq.TheImpl.{eq-value}
use Rattle.go_board.specs.PackBytes.{bytes_of, packed_eq}

-- a look-up by another test that answers alike
lookup_alike : {K X : Type 0} (f h : K → Bool) → ((k : K) → f k ≡ h k) → (es : List (K × X)) → lookup f es ≡ lookup h es
lookup_alike f h alike [] = refl
lookup_alike f h alike (e ∷ es) = ap₂ (λ b o. cond b (Some e.1) o) (alike e.0) (lookup_alike f h alike es)

-- the test of keys is that of their packs and movers
pub key_is : (a b : Key) → eq-value.it a b ≡ key_eq a b
key_is a b = mover_is a.mover b.mover
  where
    mover_is : (x y : Option Colour) →
        eq-value.it (record { pack = a.pack; mover = x }) (record { pack = b.pack; mover = y }) ≡ key_eq
        (record { pack = a.pack; mover = x }) (record { pack = b.pack; mover = y })
    mover_is None None = refl
    mover_is None (Some Black) = refl
    mover_is None (Some White) = refl
    mover_is (Some Black) None = refl
    mover_is (Some White) None = refl
    mover_is (Some Black) (Some Black) = refl
    mover_is (Some Black) (Some White) = refl
    mover_is (Some White) (Some Black) = refl
    mover_is (Some White) (Some White) = refl

pub alike : (es : List (Key × ℕ)) (q : Key) → lookup (eq-value.it q) es ≡ lookup (key_eq q) es
alike es q = lookup_alike (eq-value.it q) (key_eq q) (key_is q) es

-- what a change of the map is by that test
pub changed : (old new : List (Key × ℕ)) (p : Key) (w : Option ℕ) →
    ((q : Key) → lookup (eq-value.it q) new ≡ cond (eq-value.it p q) w (lookup (eq-value.it q) old))
    → (q : Key) → lookup (key_eq q) new ≡ cond (key_eq p q) w (lookup (key_eq q) old)
changed old new p w updates q = sym (alike new q) ∙ updates q ∙ ap₂ (λ b o. cond b w o) (key_is p q) (alike old q)

same_mover : (a b : Option Colour) → is_same a b ≡ true → a ≡ b
same_mover None None e = refl
same_mover (Some Black) (Some Black) e = refl
same_mover (Some White) (Some White) e = refl
same_mover None (Some b) e = cc
same_mover (Some a) None e = cc
same_mover (Some Black) (Some White) e = cc
same_mover (Some White) (Some Black) e = cc

-- keys that are alike are the same
pub same_key : (p q : Key) → key_eq p q ≡ true → p ≡ q
same_key p q e =
    let parts = and_parts (packed_eq p.pack q.pack) (is_same p.mover q.mover) e in
    ap₂ (λ (bytes : List ℕ) (mover : Option Colour). let key : Key =
    record { pack = record { bytes = bytes }; mover = mover } in key)
    ((bytes_eq-Decides (bytes_of p.pack) (bytes_of q.pack)).0 parts.0) (same_mover p.mover q.mover parts.1)

pub number_back : (old mid new : Key → Option ℕ) (p : Key) (j k : ℕ) → old p ≡ Some k →
    ((q : Key) → mid q ≡ cond (key_eq p q) (Some j) (old q))
    → ((q : Key) → new q ≡ cond (key_eq p q) (Some k) (mid q)) → (q : Key) → new q ≡ old q
number_back old mid new p j k was over again q = again q ∙ ap (λ o. cond (key_eq p q) (Some k) o) (over q)
    ∙ back (key_eq p q) refl
  where
    back : (b : Bool) → key_eq p q ≡ b → cond b (Some k) (cond b (Some j) (old q)) ≡ old q
    back true e = sym was ∙ ap old (same_key p q e)
    back false e = refl

-- what is left where the number is the one that was asked for, and where it is another
taken_out : (o : Option ℕ) (number : ℕ) → option_eq nat_eq o (Some number) ≡ true → without number o ≡ None
taken_out None number e = refl
taken_out (Some k) number e = ap (λ b. cond b None (Some k)) e

left_in : (o : Option ℕ) (number : ℕ) → option_eq nat_eq o (Some number) ≡ false → without number o ≡ o
left_in None number e = refl
left_in (Some k) number e = ap (λ b. cond b None (Some k)) e

-- what is left of each key where this one had the number, and where it hadn't
pub without_it : (h : HistoryValue) (p : Key) (number : ℕ) → option_eq nat_eq (later_at h p) (Some number) ≡ true
    → (q : Key) → cond (key_eq p q) None (later_at h q) ≡ cond (key_eq p q) (without number (later_at h q))
    (later_at h q)
without_it h p number found q = here (key_eq p q) refl
  where
    here : (b : Bool) → key_eq p q ≡ b →
        cond b None (later_at h q) ≡ cond b (without number (later_at h q)) (later_at h q)
    here true e = sym (ap (λ (k : Key). without number (later_at h k)) (sym (same_key p q e))
        ∙ taken_out (later_at h p) number found)
    here false e = refl

pub as_it_was : (h : HistoryValue) (p : Key) (number : ℕ) → option_eq nat_eq (later_at h p) (Some number) ≡ false
    → (q : Key) → later_at h q ≡ cond (key_eq p q) (without number (later_at h q)) (later_at h q)
as_it_was h p number other q = here (key_eq p q) refl
  where
    here : (b : Bool) → key_eq p q ≡ b → later_at h q ≡ cond b (without number (later_at h q)) (later_at h q)
    here true e = sym (ap (λ (k : Key). without number (later_at h k)) (sym (same_key p q e))
        ∙ left_in (later_at h p) number other ∙ ap (later_at h) (same_key p q e))
    here false e = refl

-- what is noted of the start's key, and of another
pub at_start : (h : HistoryValue) (key : Key) → eq-value.it h.start key ≡ true → Some 0 ≡ number_at h key
at_start h key e = sym (ap (λ b. cond b (Some 0) (later_at h key)) (sym (key_is h.start key) ∙ e))

pub past_start : (h : HistoryValue) (key : Key) (o : Option ℕ) → eq-value.it h.start key ≡ false → o ≡ later_at h key →
    o ≡ number_at h key
past_start h key o e is = is ∙ sym (ap (λ b. cond b (Some 0) (later_at h key)) (sym (key_is h.start key) ∙ e))

-- a look-up in both parts
pub lookup-append : {K X : Type 0} (test : K → Bool) (prefix back : List (K × X)) →
    lookup test (prefix ++ back) ≡ option_or (lookup test prefix) (lookup test back)
lookup-append test [] back = refl
lookup-append test (e ∷ prefix) back = here (test e.0) (lookup-append test prefix back)
  where
    here : (b : Bool) → lookup test (prefix ++ back) ≡ option_or (lookup test prefix) (lookup test back) →
        cond b (Some e.1) (lookup test (prefix ++ back)) ≡ option_or (cond b (Some e.1) (lookup test prefix))
        (lookup test back)
    here true rest = refl
    here false rest = rest

and_false : (b : Bool) → (b && false) ≡ false
and_false true = refl
and_false false = refl

pub same_number : (n : ℕ) → nat_eq n n ≡ true
same_number n = grind (arith, nat_tests)

pub hashed_alike : (p q : Key) → hashed_eq (hashed p) (hashed q) ≡ key_eq p q
hashed_alike p q = here (key_eq p q) refl
  where
    here : (b : Bool) → key_eq p q ≡ b → (nat_eq (hashed p).hash (hashed q).hash && b) ≡ b
    here true e = ap (λ k. nat_eq (hashed p).hash (hashed k).hash && true) (sym (same_key p q e))
        ∙ ap (λ b. b && true) (same_number (hashed p).hash)
    here false e = and_false (nat_eq (hashed p).hash (hashed q).hash)

pub in_parts : (first further : List (Key × ℕ)) (k : Key) →
    lookup (key_eq k) (first ++ further) ≡ option_or (lookup (key_eq k) first) (lookup (key_eq k) further)
in_parts first further k = lookup-append (key_eq k) first further

-- a key that the first part has, that neither has, and what the second has where the first has none
pub in_first : (first further : List (Key × ℕ)) (k : Key) (n : ℕ) → Some n ≡ lookup (key_eq k) first →
    Some n ≡ lookup (key_eq k) (first ++ further)
in_first first further k n is = ap (λ o. option_or o (lookup (key_eq k) further)) is ∙ sym (in_parts first further k)

pub in_further : (first further : List (Key × ℕ)) (k : Key) → lookup (key_eq k) first ≡ None →
    lookup (key_eq k) further ≡ lookup (key_eq k) (first ++ further)
in_further first further k none = ap (λ o. option_or o (lookup (key_eq k) further)) (sym none)
    ∙ sym (in_parts first further k)

pub in_first_alone : (first further : List (Key × ℕ)) (k : Key) → further ≡ [] →
    lookup (key_eq k) (first ++ further) ≡ lookup (key_eq k) first
in_first_alone first further k empty = in_parts first further k
    ∙ ap (λ (es : List (Key × ℕ)). option_or (lookup (key_eq k) first) (lookup (key_eq k) es)) empty
    ∙ or_none (lookup (key_eq k) first)
  where
    or_none : (o : Option ℕ) → option_or o None ≡ o
    or_none None = refl
    or_none (Some n) = refl

-- a key noted in the first part, or in the second, or taken out of both
pub noted_first : (old new further : List (Key × ℕ)) (p : Key) (n : ℕ) →
    ((q : Key) → lookup (key_eq q) new ≡ cond (key_eq p q) (Some n) (lookup (key_eq q) old))
    → (q : Key) → lookup (key_eq q) (new ++ further) ≡ cond (key_eq p q) (Some n) (lookup (key_eq q) (old ++ further))
noted_first old new further p n updates q = in_parts new further q
    ∙ ap (λ o. option_or o (lookup (key_eq q) further)) (updates q) ∙ here (key_eq p q)
    ∙ ap (cond (key_eq p q) (Some n)) (sym (in_parts old further q))
  where
    here : (b : Bool) → option_or (cond b (Some n) (lookup (key_eq q) old)) (lookup (key_eq q) further) ≡ cond b
        (Some n) (option_or (lookup (key_eq q) old) (lookup (key_eq q) further))
    here true = refl
    here false = refl

pub noted_further : (first old new : List (Key × ℕ)) (p : Key) (n : ℕ) → lookup (key_eq p) first ≡ None
    → ((q : Key) → lookup (key_eq q) new ≡ cond (key_eq p q) (Some n) (lookup (key_eq q) old))
    → (q : Key) → lookup (key_eq q) (first ++ new) ≡ cond (key_eq p q) (Some n) (lookup (key_eq q) (first ++ old))
noted_further first old new p n lacks updates q =
    in_parts first new q ∙ ap (option_or (lookup (key_eq q) first)) (updates q) ∙ here (key_eq p q) refl
    ∙ ap (cond (key_eq p q) (Some n)) (sym (in_parts first old q))
  where
    here : (b : Bool) → key_eq p q ≡ b →
        option_or (lookup (key_eq q) first) (cond b (Some n) (lookup (key_eq q) old)) ≡ cond b (Some n)
        (option_or (lookup (key_eq q) first) (lookup (key_eq q) old))
    here true e = ap (λ o. option_or o (Some n)) (ap (λ k. lookup (key_eq k) first) (sym (same_key p q e)) ∙ lacks)
    here false e = refl

pub forgotten : (first first' further further' : List (Key × ℕ)) (p : Key) →
    ((q : Key) → lookup (key_eq q) first' ≡ cond (key_eq p q) None (lookup (key_eq q) first))
    → ((q : Key) → lookup (key_eq q) further' ≡ cond (key_eq p q) None (lookup (key_eq q) further))
    → (q : Key) → lookup (key_eq q) (first' ++ further') ≡ cond (key_eq p q) None (lookup (key_eq q) (first ++ further))
forgotten first first' further further' p less less' q =
    in_parts first' further' q ∙ ap₂ option_or (less q) (less' q) ∙ here (key_eq p q)
    ∙ ap (cond (key_eq p q) None) (sym (in_parts first further q))
  where
    here : (b : Bool) → option_or (cond b None (lookup (key_eq q) first)) (cond b None (lookup (key_eq q) further)) ≡
        cond b None (option_or (lookup (key_eq q) first) (lookup (key_eq q) further))
    here true = refl
    here false = refl

pub none_further : (further : List (Key × ℕ)) (p : Key) → further ≡ [] → (q : Key) →
    lookup (key_eq q) further ≡ cond (key_eq p q) None (lookup (key_eq q) further)
none_further further p empty q = ap (λ (es : List (Key × ℕ)). lookup (key_eq q) es) empty ∙ here (key_eq p q)
    ∙ sym (ap (λ (es : List (Key × ℕ)). cond (key_eq p q) None (lookup (key_eq q) es)) empty)
  where
    here : (b : Bool) → let none : Option ℕ = None in none ≡ cond b none none
    here true = refl
    here false = refl

-- nothing in either part
pub nothing : (first further : List (Key × ℕ)) → first ≡ [] → further ≡ [] → (q : Key) →
    lookup (key_eq q) (first ++ further) ≡ None
nothing first further e e' q = ap₂ (λ (xs rs : List (Key × ℕ)). lookup (key_eq q) (xs ++ rs)) e e'

-- what holds of a value that is there
pub if_ok : {A E : Type 0} (P Q : A → Type 0) → ((x : A) → P x → Q x) → (r : Result A E) → IfOk r P → IfOk r Q
if_ok P Q f (Ok x) p = f x p
if_ok P Q f (Err e) p = p
