-- A word's komi is the one that it spells.
use Rattle.std.proofs.Common.{◌≡◌, ◌∙◌, ◌≤◌, ◌==◌, ◌&&◌, ◌++◌, ◌∷◌, [], ℕ, ℤ, Bool, List, Option, None, Some, ap, arith, cond, drop, eqb-true, false, inl, inr, length, not, refl, subst, suc, sym, take, true, true≢false}
use Rattle.std.proofs.Math.Seq.{drop-append_seam, take-append_seam}
use Rattle.std.proofs.lemmas.Bool.{and_parts, cases_Bool}
use Rattle.std.proofs.lemmas.Bool.Decides.{nat_tests}
use Rattle.std.proofs.lemmas.List.{take-append-drop}
use Rattle.std.proofs.lemmas.List.Sums.{prefix_len-le-length}
use Rattle.std.specs.Char.{is_ascii_digit}
use Rattle.std.specs.List.{list_all, prefix_len}
use Rattle.std.specs.Prelude.{codes, is_some, nat_le, nat_lt, option_map, unwrap_or}
use Rattle.go_board.specs.declared.decimals.TheConstants.{MAX_KOMI}
use Rattle.go_sgf.specs.Numbers.{IsSign, IsTail, KomiIsSpelled, SpellsKomi, after_sign, decimals_in, has_minus, hundredths_in, is_decimal, komi_of, point_place, size_by, size_of_number, whole_part, with_sign}

-- how many bytes come before the first point
before_point : List ℕ → ℕ
before_point number = prefix_len (λ c. not (c == 46)) number

place_is : (number : List ℕ) → point_place number ≡ before_point number
unfolding before_point
place_is number = at (before_point number) (length number) (prefix_len-le-length (λ c. not (c == 46)) number)
  where
    at : (p n : ℕ) → p ≤ n → unwrap_or (cond (nat_lt p n) (Some p) None) n ≡ p
    at p n low = elim (cases_Bool (nat_lt p n)) [
      | inl h ↦ rw h refl
      | inr h ↦
          let e : n ≡ p = grind (arith, nat_tests) in
          rw h e
    ]

-- what follows the first point, or nothing
tail_is : (number : List ℕ) → IsTail (drop (before_point number) number) (drop 1 (drop (before_point number) number))
unfolding before_point
tail_is [] = inl (refl, refl)
tail_is (c ∷ cs) = elim (cases_Bool (c == 46)) [
  | inl e ↦ rw (eqb-true c 46 e) (inr refl)
  | inr e ↦
      let more : before_point (c ∷ cs) ≡ suc (before_point cs) = rw e (omega arith) in
      subst (λ p. IsTail (drop p (c ∷ cs)) (drop 1 (drop p (c ∷ cs)))) (sym more) (tail_is cs)
]

-- digits have no point
digits_before : (whole tail decimals : List ℕ) → list_all is_ascii_digit whole ≡ true → IsTail tail decimals →
    before_point (whole ++ tail) ≡ length whole
unfolding before_point
digits_before [] tail decimals h (inl t) = rw (t.0) refl
digits_before [] tail decimals h (inr t) = rw t refl
digits_before (c ∷ cs) tail decimals h t =
    let parts = and_parts (is_ascii_digit c) (list_all is_ascii_digit cs) h in
    let no : (c == 46) ≡ false = grind (arith, nat_tests) in
    rw (no, digits_before cs tail decimals parts.1 t) (omega arith)

decimals_are : (tail decimals : List ℕ) → IsTail tail decimals → drop 1 tail ≡ decimals
decimals_are tail decimals (inl t) = rw (t.0, t.1) refl
decimals_are tail decimals (inr t) = rw t refl

-- a sign is no digit and no point
no_sign : (whole tail decimals : List ℕ) → is_decimal whole decimals ≡ true → IsTail tail decimals →
    (has_minus (whole ++ tail) ≡ false) × (after_sign (whole ++ tail) ≡ whole ++ tail)
no_sign [] tail decimals d (inl t) = absurd (true≢false (sym d ∙ rw (t.1) refl))
no_sign [] tail decimals d (inr t) = rw t (refl, refl)
no_sign (c ∷ cs) tail decimals d t =
    let digit : is_ascii_digit c ≡ true = (and_parts (is_ascii_digit c) (list_all is_ascii_digit cs)
    (and_parts _ _ (and_parts _ _ (and_parts _ _ d).0).0).0).0 in
    let minus : (c == 45) ≡ false = grind (arith, nat_tests) in
    let plus : (c == 43) ≡ false = grind (arith, nat_tests) in
    rw (plus, minus) (refl, refl)

size_back : (whole decimals : List ℕ) (n : ℕ) → size_by whole decimals ≡ Some n →
    (is_decimal whole decimals ≡ true) × (hundredths_in whole decimals ≤ MAX_KOMI) × (hundredths_in whole decimals ≡ n)
size_back whole decimals n e =
    elim (cases_Bool (is_decimal whole decimals && nat_le (hundredths_in whole decimals) MAX_KOMI)) [
      | inl h ↦
          let parts = and_parts (is_decimal whole decimals) (nat_le (hundredths_in whole decimals) MAX_KOMI) h in
          let few : hundredths_in whole decimals ≤ MAX_KOMI = grind (arith, nat_tests) in
          let f : Some (hundredths_in whole decimals) ≡ Some n = rw h at e in
          (parts.0, few, ap (λ o. unwrap_or o 0) f)
      | inr h ↦
          let f : None ≡ Some n = rw h at e in
          absurd (true≢false (sym (ap is_some f)))
    ]

size_on : (whole decimals : List ℕ) → is_decimal whole decimals ≡ true → hundredths_in whole decimals ≤ MAX_KOMI →
    size_by whole decimals ≡ Some (hundredths_in whole decimals)
size_on whole decimals d few =
    let le : nat_le (hundredths_in whole decimals) MAX_KOMI ≡ true = grind (arith, nat_tests) in
    rw (d, le) refl

-- what a number without a sign is
of_number : (number : List ℕ) (minus : Bool) (k : ℤ) (word sign : List ℕ) → word ≡ sign ++ number → IsSign sign minus →
    option_map (with_sign minus) (size_of_number number) ≡ Some k → SpellsKomi word k
of_number number minus k word sign text signed e = at (size_of_number number) refl e
  where
    at : (o : Option ℕ) → size_of_number number ≡ o → option_map (with_sign minus) o ≡ Some k → SpellsKomi word k
    at None o f = absurd (true≢false (sym (ap is_some f)))
    at (Some n) o f =
        let back = size_back (whole_part number) (decimals_in number) n o in
        record {
          minus = minus;
          sign = sign;
          whole = whole_part number;
          tail = drop (point_place number) number;
          decimals = decimals_in number;
          text = text ∙ ap (λ x. sign ++ x) (sym (take-append-drop (point_place number) number));
          signed = signed;
          tailed = subst (λ p. IsTail (drop p number) (drop 1 (drop p number))) (sym (place_is number)) (tail_is number);
          digits = back.0;
          few = back.1;
          value = sym (ap (λ x. unwrap_or x k) f) ∙ ap (with_sign minus) (sym back.2);
        }

spelled : (word : List ℕ) (k : ℤ) → komi_of word ≡ Some k → SpellsKomi word k
spelled [] k e = of_number [] false k [] [] refl (inl refl) e
spelled (c ∷ cs) k e = elim (cases_Bool (c == 45)) [
  | inl h ↦
      let is = eqb-true c 45 h in
      let f : option_map (with_sign true) (size_of_number cs) ≡ Some k = rw is at e in
      of_number cs true k (c ∷ cs) (codes "-") (ap (λ x. x ∷ cs) is) refl f
  | inr m ↦ elim (cases_Bool (c == 43)) [
    | inl h ↦
        let is = eqb-true c 43 h in
        let f : option_map (with_sign false) (size_of_number cs) ≡ Some k = rw is at e in
        of_number cs false k (c ∷ cs) (codes "+") (ap (λ x. x ∷ cs) is) (inr refl) f
    | inr p ↦
        let f : option_map (with_sign false) (size_of_number (c ∷ cs)) ≡ Some k = rw (m, p) at e in
        of_number (c ∷ cs) false k (c ∷ cs) [] refl (inl refl) f
  ]
]

-- a number's komi with a sign before it
with_sign_on : (minus : Bool) (sign number : List ℕ) (n : ℕ) → IsSign sign minus → has_minus number ≡ false →
    after_sign number ≡ number → size_of_number number ≡ Some n → komi_of (sign ++ number) ≡ Some (with_sign minus n)
with_sign_on true sign number n signed m a size = rw signed (ap (option_map (with_sign true)) size)
with_sign_on false sign number n (inl signed) m a size = rw (signed, m, a) (ap (option_map (with_sign false)) size)
with_sign_on false sign number n (inr signed) m a size = rw signed (ap (option_map (with_sign false)) size)

read_back : (word : List ℕ) (k : ℤ) → SpellsKomi word k → komi_of word ≡ Some k
read_back word k s =
    let number : List ℕ = s.whole ++ s.tail in
    let digits : list_all is_ascii_digit s.whole ≡ true =
    (and_parts _ _ (and_parts _ _ (and_parts _ _ s.digits).0).0).0 in
    let len : point_place number ≡ length s.whole = place_is number ∙ digits_before s.whole s.tail s.decimals digits s.tailed in
    let whole : whole_part number ≡ s.whole = ap (λ p. take p number) len ∙ take-append_seam s.whole s.tail in
    let decimals : decimals_in number ≡ s.decimals = ap (λ p. drop 1 (drop p number)) len
    ∙ ap (drop 1) (drop-append_seam s.whole s.tail) ∙ decimals_are s.tail s.decimals s.tailed in
    let size : size_of_number number ≡ Some (hundredths_in s.whole s.decimals) =
    ap (λ w. size_by w (decimals_in number)) whole ∙ ap (size_by s.whole) decimals
    ∙ size_on s.whole s.decimals s.digits s.few in
    let no = no_sign s.whole s.tail s.decimals s.digits s.tailed in
    ap komi_of s.text ∙ with_sign_on s.minus s.sign number (hundredths_in s.whole s.decimals) s.signed no.0 no.1 size
    ∙ ap Some (sym s.value)

pub komi_is_spelled : KomiIsSpelled
komi_is_spelled word k = (spelled word k, read_back word k)
