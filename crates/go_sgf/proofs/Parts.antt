-- How what spells some parts is put together.
use Rattle.std.proofs.Common.{◌≡◌, true, ◌≤◌, ◌+◌, inl, inr, ℕ, List, [], ◌∷◌, ◌++◌, false, refl, sym, ap, ◌∙◌, length, length-append, arith}
use Rattle.std.proofs.lemmas.Bool.{and_parts, cases_Bool, false_from_ne_true}
use Rattle.std.proofs.lemmas.Bool.Decides.{nat_tests}
use Rattle.std.specs.List.{list_all, AllByRecursion}
use Rattle.go_sgf.specs.Spelling.{Part, text, without_space, is_space, SpellsParts}
use Rattle.go_sgf.specs.Record.{is_letter_byte, IsName}
use Rattle.go_sgf.specs.inner.Reads.{begins_space}
use Rattle.go_sgf.specs.inner.Reads.{is_letter_first}
use Rattle.go_sgf.proofs.Scanning.{after_space_more, after_space_stop}

-- ---- lists

pub AllByRecursion-append : {X : Type 0} (P : X → Type 0) (xs ys : List X) → AllByRecursion P xs → AllByRecursion P ys →
    AllByRecursion P (xs ++ ys)
AllByRecursion-append P [] ys h k = k
AllByRecursion-append P (x ∷ xs) ys h k = (h.0, AllByRecursion-append P xs ys h.1 k)

pub AllByRecursion-push : {X : Type 0} (P : X → Type 0) (xs : List X) (x : X) → AllByRecursion P xs → P x →
    AllByRecursion P (xs ++ x ∷ [])
AllByRecursion-push P xs x h k = AllByRecursion-append P xs (x ∷ []) h (k, tt)

-- ---- white space

pub no_space_first : (b : List ℕ) → begins_space (without_space b) ≡ false
no_space_first [] = refl
no_space_first (c ∷ cs) = elim (cases_Bool (is_space c)) [
  | inl e ↦ rw (after_space_more c cs e) (no_space_first cs)
  | inr e ↦ rw (after_space_stop c cs e) e
]

pub after_space-same : (b : List ℕ) → begins_space b ≡ false → without_space b ≡ b
after_space-same [] e = refl
after_space-same (c ∷ cs) e = after_space_stop c cs e

pub after_space-again : (b : List ℕ) → without_space (without_space b) ≡ without_space b
after_space-again b = after_space-same (without_space b) (no_space_first b)

pub length-after_space : (b : List ℕ) → length (without_space b) ≤ length b
length-after_space [] = omega arith
length-after_space (c ∷ cs) = elim (cases_Bool (is_space c)) [
  | inl e ↦ let h = length-after_space cs in rw (after_space_more c cs e) (omega arith)
  | inr e ↦ rw (after_space_stop c cs e) (omega arith)
]

-- ---- parts

-- white space at the front is no matter
pub SpellsParts-same : (ps : List Part) (a b r : List ℕ) → without_space a ≡ without_space b → SpellsParts a ps r →
    SpellsParts b ps r
SpellsParts-same [] a b r e h = sym e ∙ h
SpellsParts-same (p ∷ ps) a b r e h = (h.0, sym e ∙ h.1, h.2)

pub SpellsParts-append : (ps qs : List Part) (a b r : List ℕ) → SpellsParts a ps b → SpellsParts b qs r →
    SpellsParts a (ps ++ qs) r
SpellsParts-append [] qs a b r h k = SpellsParts-same qs b a r (ap without_space (sym h) ∙ after_space-again a) k
SpellsParts-append (p ∷ ps) qs a b r h k = (h.0, h.1, SpellsParts-append ps qs h.0 b r h.2 k)

pub no_space_after : (ps : List Part) (b r : List ℕ) → SpellsParts b ps r → begins_space r ≡ false
no_space_after [] b r h = rw (← h) (no_space_first b)
no_space_after (p ∷ ps) b r h = no_space_after ps h.0 r h.2

pub rest_le : (ps : List Part) (b r : List ℕ) → SpellsParts b ps r → length r ≤ length b
rest_le [] b r h = rw (← h) (length-after_space b)
rest_le (p ∷ ps) b r h =
    let less : length r ≤ length h.0 = rest_le ps h.0 r h.2 in
    let whole : length (without_space b) ≡ length (text p) + length h.0 = ap length h.1 ∙ length-append (text p) h.0 in
    omega (arith, length-after_space b)

pub SpellsParts-split : (ps qs : List Part) (b r : List ℕ) → SpellsParts b (ps ++ qs) r → (mid : List ℕ)
    × SpellsParts b ps mid × SpellsParts mid qs r
SpellsParts-split [] qs b r h =
    (without_space b, refl, SpellsParts-same qs b (without_space b) r (sym (after_space-again b)) h)
SpellsParts-split (p ∷ ps) qs b r h =
    let later = SpellsParts-split ps qs h.0 r h.2 in
    (later.0, (h.0, h.1, later.1), later.2)

-- ---- what begins with a letter

pub letter_same : (b : List ℕ) → is_letter_first b ≡ true → without_space b ≡ b
letter_same [] e = refl
letter_same (c ∷ cs) e = let other : is_space c ≡ false = grind (arith, nat_tests) in after_space_stop c cs other

pub bracket_no_letter : (b more : List ℕ) → without_space b ≡ 91 ∷ more → is_letter_first b ≡ false
bracket_no_letter b more e = false_from_ne_true _
    (λ l. let whole : b ≡ 91 ∷ more = sym (letter_same b l) ∙ e in letter_91 b more whole l)
  where
    letter_91 : (b more : List ℕ) → b ≡ 91 ∷ more → is_letter_first b ≡ true → ⊥
    letter_91 b more whole l = let h : is_letter_first (91 ∷ more) ≡ true = rw whole at l in cc

pub name_letter : (n b : List ℕ) → IsName n → is_letter_first (n ++ b) ≡ true
name_letter [] b h = let e = h.1 in cc
name_letter (c ∷ cs) b h = (and_parts (is_letter_byte c) (list_all is_letter_byte cs) h.0).0
