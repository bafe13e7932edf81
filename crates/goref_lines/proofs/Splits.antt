-- How the parts of a list change as one more element comes to its end.
use Rattle.std.proofs.Common.{◌≡◌, ◌∙◌, Bool, true, false, cond, List, [], ◌∷◌, ◌++◌, refl, sym, ap}
use Rattle.std.specs.List.{slice_split, onto_first}
use Rattle.std.proofs.lemmas.List.Splits.{slice_split-cons_yes, slice_split-cons_no}

-- the lists with x put after the last
abbrev pub onto_last : {X : Type 0} → X → List (List X) → List (List X)
onto_last x [] = (x ∷ []) ∷ []
onto_last x (part ∷ []) = (part ++ x ∷ []) ∷ []
onto_last x (part ∷ next ∷ parts) = part ∷ onto_last x (next ∷ parts)

first_then_last : {X : Type 0} (x y : X) (parts : List (List X)) →
    onto_first x (onto_last y parts) ≡ onto_last y (onto_first x parts)
first_then_last x y [] = refl
first_then_last x y (part ∷ []) = refl
first_then_last x y (part ∷ next ∷ parts) = refl

-- some list, with others after it
abbrev pub HasParts : {X : Type 0} → List (List X) → Type 0
HasParts {X} parts = (first : List X) × (rest : List (List X)) × (parts ≡ first ∷ rest)

onto_first-append : {X : Type 0} (x : X) (parts more : List (List X)) → HasParts parts →
    onto_first x (parts ++ more) ≡ onto_first x parts ++ more
onto_first-append x [] more h = cc h.2
onto_first-append x (part ∷ parts) more h = refl

onto_last-cons : {X : Type 0} (y : X) (part : List X) (parts : List (List X)) → HasParts parts →
    onto_last y (part ∷ parts) ≡ part ∷ onto_last y parts
onto_last-cons y part [] h = cc h.2
onto_last-cons y part (next ∷ parts) h = refl

module _ {X : Type 0} (p : X → Bool) where
  cond_parts : (b : Bool) (x : X) (parts : List (List X)) → HasParts parts →
      HasParts (cond b ([] ∷ parts) (onto_first x parts))
  cond_parts true x parts h = ([], parts, refl)
  cond_parts false x [] h = (x ∷ [], [], refl)
  cond_parts false x (part ∷ parts) h = (x ∷ part, parts, refl)

  pub slice_split_some : (xs : List X) → HasParts (slice_split p xs)
  slice_split_some [] = ([], [], refl)
  slice_split_some (x ∷ xs) = cond_parts (p x) x (slice_split p xs) (slice_split_some xs)

  cond_push_yes : (b : Bool) (x : X) (parts all : List (List X)) → HasParts parts → all ≡ parts ++ [] ∷ [] →
      cond b ([] ∷ all) (onto_first x all) ≡ cond b ([] ∷ parts) (onto_first x parts) ++ [] ∷ []
  cond_push_yes true x parts all h e = ap (λ ps. [] ∷ ps) e
  cond_push_yes false x parts all h e = ap (onto_first x) e ∙ onto_first-append x parts ([] ∷ []) h

  -- an element that passes begins a part
  pub slice_split_push_yes : (xs : List X) (y : X) → p y ≡ true → slice_split p (xs ++ y ∷ []) ≡ slice_split p xs
      ++ [] ∷ []
  slice_split_push_yes [] y e = slice_split-cons_yes p y [] e
  slice_split_push_yes (x ∷ xs) y e =
      cond_push_yes (p x) x (slice_split p xs) _ (slice_split_some xs) (slice_split_push_yes xs y e)

  cond_push_no : (b : Bool) (x y : X) (parts all : List (List X)) → HasParts parts → all ≡ onto_last y parts →
      cond b ([] ∷ all) (onto_first x all) ≡ onto_last y (cond b ([] ∷ parts) (onto_first x parts))
  cond_push_no true x y parts all h e = ap (λ ps. [] ∷ ps) e ∙ sym (onto_last-cons y [] parts h)
  cond_push_no false x y parts all h e = ap (onto_first x) e ∙ first_then_last x y parts

  -- any other goes to the last part
  pub slice_split_push_no : (xs : List X) (y : X) → p y ≡ false →
      slice_split p (xs ++ y ∷ []) ≡ onto_last y (slice_split p xs)
  slice_split_push_no [] y e = slice_split-cons_no p y [] e
  slice_split_push_no (x ∷ xs) y e =
      cond_push_no (p x) x y (slice_split p xs) _ (slice_split_some xs) (slice_split_push_no xs y e)
