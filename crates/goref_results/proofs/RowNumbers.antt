-- The digits of a row's number: at most three.
use Rattle.std.proofs.Common.{arith, ◌≡◌, ◌∙◌, ◌<◌, ◌≤◌, ◌+◌, ◌/◌, ◌%◌, ◌∷◌, [], Bool, true, ℕ, List, refl, ap, if◌then◌else◌, nat_lt, cond}
use Rattle.std.specs.Fmt.{decimal, digits}
use Rattle.std.specs.Prelude.{bytes_eq}
use Rattle.std.proofs.lemmas.Bool.{agree_below, agree_below_at, lt-ltb, le-ltb}
use Rattle.std.proofs.lemmas.Slice.Eq.{bytes_eq-Decides}

abbrev pub one_digit : ℕ → List ℕ
one_digit n = (48 + n % 10) ∷ []

abbrev pub two_digits : ℕ → List ℕ
two_digits n = (48 + n / 10) ∷ (48 + n % 10) ∷ []

abbrev pub three_digits : ℕ → List ℕ
three_digits n = (48 + n / 100) ∷ (48 + n / 10 % 10) ∷ (48 + n % 10) ∷ []

spelled : ℕ → List ℕ
spelled n = if nat_lt n 10 then one_digit n else (if nat_lt n 100 then two_digits n else three_digits n)

holds : ℕ → Bool
holds n = bytes_eq (decimal n) (spelled n)

table : agree_below holds (λ _. true) 257 ≡ true
unfolding holds spelled digits
table = refl

is_spelled : (n : ℕ) → n ≤ 256 → decimal n ≡ spelled n
unfolding holds
is_spelled n small = (bytes_eq-Decides (decimal n) (spelled n)).0
    (agree_below_at holds (λ _. true) 257 n table (omega (arith, small)))

-- the digits by how many there are
pub has_one : (n : ℕ) → n < 10 → decimal n ≡ one_digit n
unfolding spelled
has_one n few = is_spelled n (omega (arith, few))
    ∙ ap (λ b. cond b (one_digit n) (cond (nat_lt n 100) (two_digits n) (three_digits n))) (lt-ltb n 10 few)

pub has_two : (n : ℕ) → 10 ≤ n → n < 100 → decimal n ≡ two_digits n
unfolding spelled
has_two n some few =
    is_spelled n (omega (arith, few))
    ∙ ap (λ b. cond b (one_digit n) (cond (nat_lt n 100) (two_digits n) (three_digits n))) (le-ltb n 10 some)
    ∙ ap (λ b. cond b (two_digits n) (three_digits n)) (lt-ltb n 100 few)

pub has_three : (n : ℕ) → 100 ≤ n → n ≤ 256 → decimal n ≡ three_digits n
unfolding spelled
has_three n some few =
    is_spelled n few ∙ ap (λ b. cond b (one_digit n) (cond (nat_lt n 100) (two_digits n) (three_digits n)))
    (le-ltb n 10 (omega (arith, some)))
    ∙ ap (λ b. cond b (two_digits n) (three_digits n)) (le-ltb n 100 some)
