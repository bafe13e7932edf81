-- Numbers as lines.
use Rattle.std.proofs.Common.{arith, ◌≡◌, ◌≢◌, ◌≤◌, ◌+◌, ◌/◌, ◌%◌, ℕ, zero, suc, Bool, true, false, List, [], ◌∷◌, ◌++◌, refl, subst}
use Rattle.std.specs.Prelude.{◌==◌, ℤ, pos, negsuc, codes, if◌then◌else◌, nat_lt, decimal}
use Rattle.std.specs.Fmt.{digit_glyph, digits, digits_onto}
use Rattle.go_game.specs.Scores.{decimals_of, hundredths_word, score_word, size_text}
use Rattle.goref_session.proofs.Lines.{IsFull, IsLine, line_append, line_by_test, line_if}

glyph_plain : (d : ℕ) → 32 ≤ digit_glyph false d
glyph_plain d = by_test (nat_lt d 10)
  where
    by_test : (b : Bool) → 32 ≤ (if b then 48 + d else 87 + d)
    by_test true = omega arith
    by_test false = omega arith

digits_line : (k n : ℕ) (ds : List ℕ) → IsLine ds → IsLine (digits_onto k 10 false n ds)
digits_line zero n ds h = h
digits_line (suc k) n ds h =
    let d = digit_glyph false (n % 10) in
    line_if (n / 10 == 0) (d ∷ ds) (digits_onto k 10 false (n / 10) (d ∷ ds)) (glyph_plain (n % 10), h)
    (digits_line k (n / 10) (d ∷ ds) (glyph_plain (n % 10), h))

some_if : (b : Bool) (xs ys : List ℕ) → xs ≢ [] → ys ≢ [] → (if b then xs else ys) ≢ []
some_if true xs ys h k = h
some_if false xs ys h k = k

digits_after : (k n d : ℕ) (ds : List ℕ) → digits_onto k 10 false n (d ∷ ds) ≢ []
digits_after zero n d ds = λ e. cc e
digits_after (suc k) n d ds =
    let c = digit_glyph false (n % 10) in
    some_if (n / 10 == 0) (c ∷ d ∷ ds) (digits_onto k 10 false (n / 10) (c ∷ d ∷ ds)) (λ e. cc e)
    (digits_after k (n / 10) c (d ∷ ds))

digits_some : (k n : ℕ) → digits_onto (suc k) 10 false n [] ≢ []
digits_some k n =
    let d = digit_glyph false (n % 10) in
    some_if (n / 10 == 0) (d ∷ []) (digits_onto k 10 false (n / 10) (d ∷ [])) (λ e. cc e)
    (digits_after k (n / 10) d [])

decimal_is : (n : ℕ) → digits_onto (suc 63) 10 false n [] ≡ decimal n
unfolding digits
decimal_is n = refl

pub full_decimal : (n : ℕ) → IsFull (decimal n)
full_decimal n = subst IsFull (decimal_is n) (record { line = digits_line (suc 63) n [] tt; some = digits_some 63 n })

-- ---- hundredths

decimals_line : (n : ℕ) → IsLine (decimals_of n)
decimals_line n =
    let tenths : List ℕ = codes "." ++ (48 + n / 10) ∷ [] in
    let both : List ℕ = codes "." ++ (48 + n / 10) ∷ (48 + n % 10) ∷ [] in
    line_if (n == 0) [] (if n % 10 == 0 then tenths else both) tt
    (line_if (n % 10 == 0) tenths both (omega arith, (omega arith, tt)) (omega arith, (omega arith, (omega arith, tt))))

size_line : (n : ℕ) → IsLine (size_text n)
unfolding size_text
size_line n = line_append (decimal (n / 100)) (decimals_of (n % 100)) ((full_decimal (n / 100)).line)
    (decimals_line (n % 100))

pub hundredths_line : (z : ℤ) → IsLine (hundredths_word z)
hundredths_line (pos n) = size_line n
hundredths_line (negsuc n) = (omega arith, size_line (n + 1))

pub score_line : (z : ℤ) → IsLine (score_word z)
score_line (pos n) = line_if (n == 0) (codes "0") (codes "B+" ++ size_text n) (line_by_test (codes "0") refl)
    (line_append (codes "B+") (size_text n) (line_by_test (codes "B+") refl) (size_line n))
score_line (negsuc n) = line_append (codes "W+") (size_text (n + 1)) (line_by_test (codes "W+") refl)
    (size_line (n + 1))
