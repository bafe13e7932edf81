-- Two lists of which no key is noted in both, and what is noted of a key in either.
use Rattle.std.specs.declared.result.Result.{Result}
use Rattle.std.specs.Map.{lookup}
use Rattle.std.specs.Option.{option_or}
use Rattle.std.proofs.Common.{◌≡◌, ◌∙◌, ◌⊎◌, ◌++◌, ℕ, Bool, true, false, cond, List, Option, Some, None, Ok, Err, OnErr, ap, inl, inr, refl, subst, sym}
use Rattle.go_history.specs.declared.key.Key.{Key}
use Rattle.go_history.specs.Keys.{key_eq}
use Rattle.go_history.specs.inner.Trees.{AreApart, TreeValue}
use Rattle.go_history.proofs.Noting.{in_further, in_parts, same_key}

pub swapped : (xs ys : List (Key × ℕ)) → AreApart xs ys → AreApart ys xs
swapped xs ys apart q = elim (apart q) [
  | inl none ↦ inr none
  | inr none ↦ inl none
]

-- what the one list has, where the other has nothing, and where it has something
pub in_first_only : (first further : List (Key × ℕ)) (k : Key) → lookup (key_eq k) further ≡ None →
    lookup (key_eq k) first ≡ lookup (key_eq k) (first ++ further)
in_first_only first further k none =
    sym (in_parts first further k ∙ ap (option_or (lookup (key_eq k) first)) none ∙ or_none (lookup (key_eq k) first))
  where
    or_none : (o : Option ℕ) → option_or o None ≡ o
    or_none None = refl
    or_none (Some n) = refl

pub in_further_only : (first further : List (Key × ℕ)) (k : Key) (n : ℕ) → AreApart first further →
    Some n ≡ lookup (key_eq k) further → Some n ≡ lookup (key_eq k) (first ++ further)
in_further_only first further k n apart is = elim (apart k) [
  | inl none ↦ is ∙ in_further first further k none
  | inr none ↦ absurd (let bad = is ∙ none in cc)
]

-- still none in both, once a key was noted in one that the other lacks
noted_apart : (old new other : List (Key × ℕ)) (p : Key) (n : ℕ) → AreApart old other → lookup (key_eq p) other ≡ None
    → ((q : Key) → lookup (key_eq q) new ≡ cond (key_eq p q) (Some n) (lookup (key_eq q) old)) → AreApart new other
noted_apart old new other p n apart lacks updates q = here (key_eq p q) refl
  where
    here : (b : Bool) → key_eq p q ≡ b → (lookup (key_eq q) new ≡ None) ⊎ (lookup (key_eq q) other ≡ None)
    here true e = inr (ap (λ (k : Key). lookup (key_eq k) other) (sym (same_key p q e)) ∙ lacks)
    here false e = elim (apart q) [
      | inl none ↦ inl (updates q ∙ ap (λ b. cond b (Some n) (lookup (key_eq q) old)) e ∙ none)
      | inr none ↦ inr none
    ]

pub apart_after : {E : Type 0} (result : Result (Option ℕ) E) (old new : TreeValue) (other : List (Key × ℕ)) (p : Key)
    (n : ℕ) → AreApart old.noted other → lookup (key_eq p) other ≡ None
    → (result ≡ Ok None → (q : Key) →
    lookup (key_eq q) new.noted ≡ cond (key_eq p q) (Some n) (lookup (key_eq q) old.noted))
    → ((k : ℕ) → result ≡ Ok (Some k) → new ≡ old) → OnErr result (new ≡ old) → AreApart new.noted other
apart_after (Ok None) old new other p n apart lacks noted stood err =
    noted_apart old.noted new.noted other p n apart lacks (noted refl)
apart_after (Ok (Some k)) old new other p n apart lacks noted stood err =
    subst (λ (v : TreeValue). AreApart v.noted other) (sym (stood k refl)) apart
apart_after (Err e) old new other p n apart lacks noted stood err =
    subst (λ (v : TreeValue). AreApart v.noted other) (sym err) apart

-- still none in both, once a key was taken out of both
pub apart_without : (xs xs' ys ys' : List (Key × ℕ)) (p : Key) → AreApart xs ys →
    ((q : Key) → lookup (key_eq q) xs' ≡ cond (key_eq p q) None (lookup (key_eq q) xs))
    → ((q : Key) → lookup (key_eq q) ys' ≡ cond (key_eq p q) None (lookup (key_eq q) ys)) → AreApart xs' ys'
apart_without xs xs' ys ys' p apart less less' q = elim (apart q) [
  | inl none ↦ inl (less q ∙ ap (cond (key_eq p q) None) none ∙ nothing (key_eq p q))
  | inr none ↦ inr (less' q ∙ ap (cond (key_eq p q) None) none ∙ nothing (key_eq p q))
]
  where
    nothing : (b : Bool) → cond b None (let none : Option ℕ = None in none) ≡ None
    nothing true = refl
    nothing false = refl
