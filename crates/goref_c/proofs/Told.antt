-- What a loop over points has told so far, and one point more.
use Rattle.std.proofs.Common.{◌≡◌, ◌∙◌, ◌<◌, ◌+◌, ◌++◌, ◌∷◌, [], ℕ, List, length, map, take, ap, sym, subst, slice_set, arith}
use Rattle.std.specs.List.{range_with_len}
use Rattle.std.proofs.lemmas.List.{take_more_set}
use Rattle.std.proofs.lemmas.List.FromFn.{map-range_with_len_more}

-- at the place itself
at_place : (f : ℕ → ℕ) (xs : List ℕ) (i x : ℕ) → i < length xs → f i ≡ x →
    take i xs ≡ map f (range_with_len 0 i) → take (i + 1) (slice_set xs i x) ≡ map f (range_with_len 0 (i + 1))
at_place f xs i x short is so =
    take_more_set xs i x short
    ∙ ap (λ ys. ys ++ x ∷ []) so
    ∙ ap (λ y. map f (range_with_len 0 i) ++ y ∷ []) (sym is)
    ∙ sym (map-range_with_len_more f 0 i i (omega arith))

pub one_more : (f : ℕ → ℕ) (xs : List ℕ) (i j x : ℕ) → i < length xs → i ≡ j → f i ≡ x →
    take i xs ≡ map f (range_with_len 0 i) → take (i + 1) (slice_set xs j x) ≡ map f (range_with_len 0 (i + 1))
one_more f xs i j x short at is so =
    subst (λ (k : ℕ). take (i + 1) (slice_set xs k x) ≡ map f (range_with_len 0 (i + 1))) at
    (at_place f xs i x short is so)
