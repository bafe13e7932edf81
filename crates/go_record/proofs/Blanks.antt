-- Values of white space alone, and the place of a `:`.
use Rattle.std.proofs.Common.{◌≡◌, ◌∙◌, ◌==◌, ◌&&◌, ◌∷◌, [], ℕ, Bool, List, None, Option, Some, ap, arith, false, inl, inr, length, refl, reverse, suc, true}
use Rattle.std.proofs.lemmas.Bool.{cases_Bool, le-ltb, lt-ltb}
use Rattle.std.proofs.lemmas.Grind.{common_steps}
use Rattle.std.proofs.lemmas.List.{length-reverse, reverse-append}
use Rattle.std.proofs.lemmas.List.Folds.{list_all-append}
use Rattle.std.proofs.lemmas.List.Sums.{position_or_len_is}
use Rattle.std.specs.List.{list_all, position, position_or_len}
use Rattle.std.specs.Prelude.{nat_eq}
use Rattle.memchr.specs.Find.{IsFirstByte, is_byte}
use Rattle.go_sgf.specs.Numbers.{trimmed}
use Rattle.go_sgf.specs.Spelling.{is_space, without_space}

not_zero : (n : ℕ) → nat_eq (suc n) 0 ≡ false
not_zero n = grind (arith, common_steps)

blank_where_empty : (v : List ℕ) → nat_eq (length (without_space v)) 0 ≡ list_all is_space v
blank_where_empty [] = refl
blank_where_empty (c ∷ cs) = elim (cases_Bool (is_space c)) [
  | inl e ↦ rw e (blank_where_empty cs)
  | inr e ↦ rw e (not_zero (length cs))
]

and_swapped : (a b : Bool) → (b && (a && true)) ≡ (a && b)
and_swapped true true = refl
and_swapped true false = refl
and_swapped false true = refl
and_swapped false false = refl

all_reversed : (p : ℕ → Bool) (v : List ℕ) → list_all p (reverse v) ≡ list_all p v
all_reversed p [] = refl
all_reversed p (c ∷ cs) =
    ap (list_all p) (reverse-append (c ∷ []) cs) ∙ list_all-append p (reverse cs) (c ∷ [])
    ∙ rw (all_reversed p cs) (and_swapped (p c) (list_all p cs))

all_after_space : (v : List ℕ) → list_all is_space (without_space v) ≡ list_all is_space v
all_after_space [] = refl
all_after_space (c ∷ cs) = elim (cases_Bool (is_space c)) [
  | inl e ↦ rw e (all_after_space cs)
  | inr e ↦ rw e (ap (λ b. b && list_all is_space cs) e)
]

-- trimmed, a value has nothing where it is white space alone
pub trimmed_to_none : (v : List ℕ) → nat_eq (length (trimmed v)) 0 ≡ list_all is_space v
trimmed_to_none v =
    let inner : List ℕ = reverse (without_space v) in
    ap (λ n. nat_eq n 0) (length-reverse (without_space inner)) ∙ blank_where_empty inner
    ∙ all_reversed is_space (without_space v) ∙ all_after_space v

is_false : (b : Bool) → (b ≡ true → ⊥) → b ≡ false
is_false true h = absurd (h refl)
is_false false h = refl

-- the place of the first `:`
pub place_is : (v : List ℕ) (r : Option ℕ) → IsFirstByte (is_byte 58) v r → r ≡ position (λ b. b == 58) v
place_is v None h =
    let e : position_or_len (λ b. b == 58) v ≡ length v =
    position_or_len_is (λ b. b == 58) v (length v) 0 (omega arith) (λ k l. is_false _ (h k (omega arith) l))
    (λ l. absurd (omega arith)) in
    rw (e, le-ltb (length v) (length v) (omega arith)) refl
place_is v (Some k) h =
    let e : position_or_len (λ b. b == 58) v ≡ k =
    position_or_len_is (λ b. b == 58) v k 0 (omega arith) (λ j l. is_false _ (h.0.before j (omega arith) l))
    (λ l. h.1) in
    rw (e, lt-ltb k (length v) h.0.high) refl
