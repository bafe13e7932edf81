-- Numbers as values: what is written of them is read back.
use Rattle.std.proofs.Common.{◌≡◌, ◌≢◌, ◌∙◌, ◌<◌, ◌≤◌, ◌*◌, ◌+◌, ◌-◌, ◌/◌, ◌%◌, ◌^◌, ◌++◌, ℕ, ℤ, Bool, true, false, true≢false, List, [], ◌∷◌, refl, sym, ap, ap₂, subst, inl, inr, arith, length, drop, reverse}
use Rattle.std.specs.Prelude.{Option, Some, None, ◌==◌, nat_le, nat_lt, not, decimal, pos, negsuc, position, unwrap_or, option_map, ◌-ℤ◌}
use Rattle.std.proofs.lemmas.Int.{ints}
use Rattle.go_record.specs.Games.{is_blank_value}
use Rattle.go_board.specs.Komi.{IsKomi}
use Rattle.std.proofs.Math.Seq.{take-append_seam, drop-append_seam}
use Rattle.std.specs.Char.{is_ascii_digit}
use Rattle.std.specs.List.{list_all, prefix_len, AllByRecursion}
use Rattle.std.proofs.lemmas.Bool.{cases_Bool, le-leb, lt-ltb}
use Rattle.std.proofs.lemmas.Fmt.{decimal_by_steps}
use Rattle.std.proofs.lemmas.Grind.{common_steps}
use Rattle.std.proofs.lemmas.List.{append-nil, drop_all, length-append, take_all, reverse-append, reverse-reverse}
use Rattle.std.proofs.lemmas.List.Sums.{fold-append}
use Rattle.go_game.specs.Scores.{decimals_of, hundredths_word, size_text}
use Rattle.go_board.specs.Decimals.{int_of, is_empty, digits_value}
use Rattle.go_sgf.specs.Numbers.{after_plus, decimals_in, hundredths_in, hundredths_by, komi_of, number_in, point_place, size_by, size_of_number, trimmed, whole_part, with_sign}
use Rattle.go_board.specs.declared.decimals.TheConstants.{MAX_INT, MAX_KOMI}
use Rattle.go_sgf.specs.Record.{is_inside}
use Rattle.go_sgf.specs.Spelling.{without_space, is_space}

-- from `-` to `9`, and digits
abbrev pub IsLow : ℕ → Type 0
IsLow c = (45 ≤ c) × (c ≤ 57)

abbrev pub IsDigit : ℕ → Type 0
IsDigit c = (48 ≤ c) × (c ≤ 57)

pub all_append : (P : ℕ → Type 0) (xs ys : List ℕ) → AllByRecursion P xs → AllByRecursion P ys →
    AllByRecursion P (xs ++ ys)
all_append P [] ys h k = k
all_append P (x ∷ xs) ys h k = (h.0, all_append P xs ys h.1 k)

pub all_weaker : {P Q : ℕ → Type 0} → ((c : ℕ) → P c → Q c) → (xs : List ℕ) → AllByRecursion P xs → AllByRecursion Q xs
all_weaker f [] h = tt
all_weaker f (x ∷ xs) h = (f x h.0, all_weaker f xs h.1)

pub all_reverse : (P : ℕ → Type 0) (xs : List ℕ) → AllByRecursion P xs → AllByRecursion P (reverse xs)
all_reverse P [] h = tt
all_reverse P (x ∷ xs) h = subst (AllByRecursion P) (sym (reverse-append (x ∷ []) xs))
    (all_append P (reverse xs) (x ∷ []) (all_reverse P xs h.1) (h.0, tt))

-- ---- white space

abbrev pub NoSpace : ℕ → Type 0
NoSpace c = is_space c ≡ false

pub unequal : (a b : ℕ) → a ≢ b → (a == b) ≡ false
unequal a b h = grind (arith, common_steps, h)

pub low_no_space : (c : ℕ) → 14 ≤ c → c ≢ 32 → NoSpace c
low_no_space c h k =
    let e : nat_le c 13 ≡ false = grind (arith, common_steps, h) in
    rw (unequal c 32 k, le-leb 9 c (omega (arith, h)), e) refl

no_space_after : (xs : List ℕ) → AllByRecursion NoSpace xs → without_space xs ≡ xs
no_space_after [] h = refl
no_space_after (x ∷ xs) h = rw h.0 refl

pub trimmed_same : (xs : List ℕ) → AllByRecursion NoSpace xs → trimmed xs ≡ xs
trimmed_same xs h =
    ap (λ ys. reverse (without_space (reverse ys))) (no_space_after xs h)
    ∙ ap reverse (no_space_after (reverse xs) (all_reverse NoSpace xs h)) ∙ reverse-reverse xs

-- ---- decimal digits

pub record IsDecimal (n : ℕ) (ds : List ℕ) : Type 0 where
  pub digits : AllByRecursion IsDigit ds
  pub value : digits_value ds ≡ n
  pub some : is_empty ds ≡ false

value_push : (ds : List ℕ) (d : ℕ) → digits_value (ds ++ d ∷ []) ≡ 10 * digits_value ds + (d - 48)
value_push ds d = fold-append (λ value c. 10 * value + (c - 48)) 0 ds (d ∷ [])

some_push : (ds : List ℕ) (d : ℕ) → is_empty (ds ++ d ∷ []) ≡ false
some_push [] d = refl
some_push (c ∷ ds) d = refl

pub decimal_is : (n : ℕ) → n < 2 ^ 64 → IsDecimal n (decimal n)
decimal_is n h =
    decimal_by_steps IsDecimal
    (λ k low. record { digits = ((omega arith, omega arith), tt); value = omega arith; some = refl })
    (λ k ds big is. record {
      digits = all_append IsDigit ds ((48 + k % 10) ∷ []) is.digits ((omega arith, omega arith), tt);
      value = value_push ds (48 + k % 10) ∙ ap (λ v. 10 * v + ((48 + k % 10) - 48)) is.value
          ∙ (let e : 10 * (k / 10) + ((48 + k % 10) - 48) ≡ k = omega arith in e);
      some = some_push ds (48 + k % 10);
    }) n h

digit_test : (c : ℕ) → IsDigit c → is_ascii_digit c ≡ true
digit_test c h = rw (le-leb 48 c h.0, le-leb c 57 h.1) refl

pub digits_test : (ds : List ℕ) → AllByRecursion IsDigit ds → list_all is_ascii_digit ds ≡ true
digits_test [] h = refl
digits_test (d ∷ ds) h = rw (digit_test d h.0) (digits_test ds h.1)

-- ---- values have no bracket

pub low_inside : (xs : List ℕ) → AllByRecursion (λ c. (c ≢ 93) × (c ≢ 92)) xs → is_inside false xs ≡ true
low_inside [] h = refl
low_inside (x ∷ xs) h = rw (unequal x 93 h.0.0, unequal x 92 h.0.1) (low_inside xs h.1)

-- ---- numbers

after_digits : (ds : List ℕ) → AllByRecursion IsDigit ds → after_plus ds ≡ ds
after_digits [] h = refl
after_digits (d ∷ ds) h = rw (unequal d 43 (λ e. omega (arith, e, h.0.0))) refl

pub digits_no_space : (ds : List ℕ) → AllByRecursion IsDigit ds → AllByRecursion NoSpace ds
digits_no_space ds h = all_weaker {P = IsDigit} {Q = NoSpace}
    (λ c k. low_no_space c (omega (arith, k.0)) (λ e. omega (arith, e, k.0))) ds h

pub number_read : (n : ℕ) (ds : List ℕ) → IsDecimal n ds → n ≤ MAX_INT → number_in ds ≡ Some n
number_read n ds is few =
    ap (λ v. int_of (after_plus v)) (trimmed_same ds (digits_no_space ds is.digits))
    ∙ ap int_of (after_digits ds is.digits)
    ∙ rw (is.some, digits_test ds is.digits, is.value, le-leb n MAX_INT few) refl

-- ---- komi

abbrev pub is_point : ℕ → Bool
is_point c = c == 46

before_point : (ds es : List ℕ) → AllByRecursion IsDigit ds →
    prefix_len (λ c. not (is_point c)) (ds ++ es) ≡ length ds + prefix_len (λ c. not (is_point c)) es
before_point [] es h = omega arith
before_point (d ∷ ds) es h = rw (unequal d 46 (λ e. omega (arith, e, h.0.0)), before_point ds es h.1) (omega arith)

not_less : (n : ℕ) → nat_lt n n ≡ false
not_less n = grind (arith, common_steps)

no_point : (ds : List ℕ) → AllByRecursion IsDigit ds → position is_point ds ≡ None
no_point ds h =
    let e : prefix_len (λ c. not (is_point c)) ds ≡ length ds =
    ap (prefix_len (λ c. not (is_point c))) (sym (append-nil ds)) ∙ before_point ds [] h
    ∙ (let z : length ds + 0 ≡ length ds = omega arith in z) in
    rw (e, not_less (length ds)) refl

point_after : (ds es : List ℕ) → AllByRecursion IsDigit ds → position is_point (ds ++ 46 ∷ es) ≡ Some (length ds)
point_after ds es h =
    let e : prefix_len (λ c. not (is_point c)) (ds ++ 46 ∷ es) ≡ length ds =
    before_point ds (46 ∷ es) h ∙ (let z : length ds + 0 ≡ length ds = omega arith in z) in
    let low : nat_lt (length ds) (length (ds ++ 46 ∷ es)) ≡ true =
    lt-ltb (length ds) (length (ds ++ 46 ∷ es)) (rw length-append (omega arith)) in
    rw (e, low) refl

-- what stands before and after a point
pub record HasParts (t w d : List ℕ) : Type 0 where
  pub whole : whole_part t ≡ w
  pub decimals : decimals_in t ≡ d

parts_alone : (w : List ℕ) → AllByRecursion IsDigit w → HasParts w w []
parts_alone w h =
    let at : point_place w ≡ length w = ap (λ (o : Option ℕ). unwrap_or o (length w)) (no_point w h) in
    record {
      whole = rw at (take_all (length w) w (omega arith));
      decimals = rw at (ap (drop 1) (drop_all (length w) w (omega arith)));
    }

parts_point : (w d : List ℕ) → AllByRecursion IsDigit w → HasParts (w ++ 46 ∷ d) w d
parts_point w d h =
    let at : point_place (w ++ 46 ∷ d) ≡ length w =
    ap (λ (o : Option ℕ). unwrap_or o (length (w ++ 46 ∷ d))) (point_after w d h) in
    record {
      whole = rw at (take-append_seam w (46 ∷ d));
      decimals = rw at (ap (drop 1) (drop-append_seam w (46 ∷ d)));
    }

size_read : (n q : ℕ) (w d t : List ℕ) → IsDecimal q w → HasParts t w d → list_all is_ascii_digit d ≡ true →
    list_all (λ c. c == 48) (drop 2 d) ≡ true →
    hundredths_in w d ≡ n → n ≤ MAX_KOMI → size_of_number t ≡ Some n
size_read n q w d t is parts digits zeros value few =
    ap₂ size_by parts.whole parts.decimals
    ∙ rw (digits_test w is.digits, digits, is.some, zeros, value, le-leb n MAX_KOMI few) refl

value_two : (w : List ℕ) (x y : ℕ) → digits_value (w ++ x ∷ y ∷ []) ≡ 10 * (10 * digits_value w + (x - 48)) + (y - 48)
value_two w x y = fold-append (λ value c. 10 * value + (c - 48)) 0 w (x ∷ y ∷ [])

equal_is : (a b : ℕ) → (a == b) ≡ true → a ≡ b
equal_is a b e = grind (arith, common_steps, e)

-- the decimals of a number of hundredths, after whole ones
size_with : (n q r : ℕ) (w : List ℕ) → IsDecimal q w → 100 * q + r ≡ n → r < 100 → n ≤ MAX_KOMI →
    size_of_number (w ++ decimals_of r) ≡ Some n
size_with n q r w is sum low few = elim (cases_Bool (r == 0)) [
  | inl zero ↦
      let none : r ≡ 0 = equal_is r 0 zero in
      let value : hundredths_in w [] ≡ n = value_two w 48 48 ∙ ap (λ v. 10 * (10 * v + 0) + 0) is.value
      ∙ (let e : 10 * (10 * q + 0) + 0 ≡ n = omega (arith, sum, none) in e) in
      rw zero (subst (λ (t : List ℕ). size_of_number t ≡ Some n) (sym (append-nil w))
      (size_read n q w [] w is (parts_alone w is.digits) refl refl value few))
  | inr some ↦ elim (cases_Bool (r % 10 == 0)) [
    | inl tens ↦
        let x = 48 + r / 10 in
        let value : hundredths_in w (x ∷ []) ≡ n = value_two w x 48 ∙ ap (λ v. 10 * (10 * v + (x - 48)) + 0) is.value
        ∙ (let e : 10 * (10 * q + (48 + r / 10 - 48)) + 0 ≡ n = omega (arith, sum, equal_is (r % 10) 0 tens) in e) in
        let digit : IsDigit x = (omega arith, omega (arith, low)) in
        rw (some, tens) (size_read n q w (x ∷ []) (w ++ 46 ∷ x ∷ []) is (parts_point w (x ∷ []) is.digits)
        (digits_test (x ∷ []) (digit, tt)) refl value few)
    | inr ones ↦
        let x = 48 + r / 10 in
        let y = 48 + r % 10 in
        let value : hundredths_in w (x ∷ y ∷ []) ≡ n = value_two w x y
        ∙ ap (λ v. 10 * (10 * v + (x - 48)) + (y - 48)) is.value
        ∙ (let e : 10 * (10 * q + (48 + r / 10 - 48)) + (48 + r % 10 - 48) ≡ n = omega (arith, sum) in e) in
        let first : IsDigit x = (omega arith, omega (arith, low)) in
        let second : IsDigit y = (omega arith, omega arith) in
        rw (some, ones) (size_read n q w (x ∷ y ∷ []) (w ++ 46 ∷ x ∷ y ∷ []) is (parts_point w (x ∷ y ∷ []) is.digits)
        (digits_test (x ∷ y ∷ []) (first, (second, tt))) refl value few)
  ]
]

size_back : (n : ℕ) → n ≤ MAX_KOMI → size_of_number (size_text n) ≡ Some n
unfolding size_text
size_back n few = size_with n (n / 100) (n % 100) (decimal (n / 100)) (decimal_is (n / 100) (omega (arith, few)))
    (omega arith) (omega arith) few

decimals_low : (r : ℕ) → r < 100 → AllByRecursion IsLow (decimals_of r)
decimals_low r low = elim (cases_Bool (r == 0)) [
  | inl zero ↦ rw zero tt
  | inr some ↦ elim (cases_Bool (r % 10 == 0)) [
    | inl tens ↦ rw (some, tens) ((omega arith, omega arith), ((omega arith, omega (arith, low)), tt))
    | inr ones ↦ rw (some, ones) (
      (omega arith, omega arith),
      ((omega arith, omega (arith, low)), ((omega arith, omega arith), tt)),
    )
  ]
]

size_low : (n : ℕ) → n ≤ MAX_KOMI → AllByRecursion IsLow (size_text n)
unfolding size_text
size_low n few =
    all_append IsLow (decimal (n / 100)) (decimals_of (n % 100))
    (all_weaker {P = IsDigit} {Q = IsLow} (λ c h. (omega (arith, h.0), h.1)) (decimal (n / 100))
    (decimal_is (n / 100) (omega (arith, few))).digits) (decimals_low (n % 100) (omega arith))

first_digit : (w back : List ℕ) → is_empty w ≡ false → AllByRecursion IsDigit w → (d : ℕ) × (ds : List ℕ)
    × (w ++ back ≡ d ∷ ds) × IsDigit d
first_digit [] back e h = absurd (true≢false e)
first_digit (d ∷ w) back e h = (d, w ++ back, refl, h.0)

size_some : (n : ℕ) → n ≤ MAX_KOMI → (d : ℕ) × (ds : List ℕ) × (size_text n ≡ d ∷ ds) × IsDigit d
unfolding size_text
size_some n few =
    let is = decimal_is (n / 100) (omega (arith, few)) in
    first_digit (decimal (n / 100)) (decimals_of (n % 100)) is.some is.digits

pub low_clean : (c : ℕ) → IsLow c → NoSpace c
low_clean c h = low_no_space c (omega (arith, h.0)) (λ e. omega (arith, e, h.0))

plain_read : (t : List ℕ) (d : ℕ) (ds : List ℕ) (n : ℕ) → t ≡ d ∷ ds → IsDigit d → AllByRecursion IsLow t →
    size_of_number t ≡ Some n → hundredths_by t ≡ Some (pos n)
plain_read t d ds n e digit low size =
    let word : komi_of (d ∷ ds) ≡ option_map (with_sign false) (size_of_number (d ∷ ds)) =
    rw (unequal d 45 (λ x. omega (arith, x, digit.0)), unequal d 43 (λ x. omega (arith, x, digit.0))) refl in
    ap komi_of (trimmed_same t (all_weaker {P = IsLow} {Q = NoSpace} low_clean t low) ∙ e) ∙ word
    ∙ ap (option_map (with_sign false)) (ap size_of_number (sym e) ∙ size)

pos_small : (n : ℕ) → IsKomi (pos n) → n ≤ MAX_KOMI
pos_small n h = omega (arith, ints, h.1)

negsuc_small : (n : ℕ) → IsKomi (negsuc n) → n + 1 ≤ MAX_KOMI
negsuc_small n h = omega (arith, ints, h.0)

below_zero : (n : ℕ) → pos 0 -ℤ pos (n + 1) ≡ negsuc n
below_zero n = omega (arith, ints)

pub komi_low : (k : ℤ) → IsKomi k → AllByRecursion IsLow (hundredths_word k)
komi_low (pos n) h = size_low n (pos_small n h)
komi_low (negsuc n) h = ((omega arith, omega arith), size_low (n + 1) (negsuc_small n h))

pub komi_read : (k : ℤ) → IsKomi k → hundredths_by (hundredths_word k) ≡ Some k
komi_read (pos n) h =
    let few = pos_small n h in
    let first = size_some n few in
    plain_read (size_text n) first.0 first.1 n first.2 first.3 (size_low n few) (size_back n few)
komi_read (negsuc n) h =
    let few = negsuc_small n h in
    let low = komi_low (negsuc n) h in
    ap komi_of (trimmed_same (hundredths_word (negsuc n))
    (all_weaker {P = IsLow} {Q = NoSpace} low_clean (hundredths_word (negsuc n)) low))
    ∙ ap (option_map (with_sign true)) (size_back (n + 1) few)
    ∙ ap Some (below_zero n)

pub word_some : (k : ℤ) → IsKomi k → is_empty (hundredths_word k) ≡ false
word_some (pos n) h = ap is_empty (size_some n (pos_small n h)).2
word_some (negsuc n) h = refl

-- ---- what is not blank, and has no such byte

pub not_blank : (ds : List ℕ) → is_empty ds ≡ false → AllByRecursion NoSpace ds → is_blank_value ds ≡ false
not_blank [] e h = absurd (true≢false e)
not_blank (d ∷ ds) e h = rw h.0 refl

no_byte_within : (b : ℕ) (ds : List ℕ) → AllByRecursion (λ c. c ≢ b) ds → prefix_len (λ c. not (c == b)) ds ≡ length ds
no_byte_within b [] h = refl
no_byte_within b (d ∷ ds) h = rw (unequal d b h.0, no_byte_within b ds h.1) (omega arith)

pub no_byte : (b : ℕ) (ds : List ℕ) → AllByRecursion (λ c. c ≢ b) ds → position (λ c. c == b) ds ≡ None
no_byte b ds h = rw (no_byte_within b ds h, not_less (length ds)) refl
