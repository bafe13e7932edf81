-- A number of a point divided by the lines of its board, by one multiplication.
use Rattle.std.proofs.Common.{arith, ◌≡◌, ◌<◌, ◌≤◌, ◌+◌, ◌-◌, ◌*◌, ◌/◌, ◌%◌, ◌^◌, ◌&&◌, ◌∙◌, zero, suc, inl, inr, true, Bool, ℕ, refl, sym, ap, slice_index}
use Rattle.std.specs.Prelude.{nat_le, nat_lt}
use Rattle.std.proofs.lemmas.Bool.{and_parts, cases_eq, leb-true, ltb-true}
use Rattle.std.proofs.lemmas.Nat.{div-mul-add, div_below, mul-le}
use Rattle.std.proofs.Math.Nat.{div-add-mod, mod-lt}
use Rattle.go_board.specs.declared.point.TheConstants.{SHARES}

-- 65,536 over the lines, rounded up
pub record IsShare (l share : ℕ) : Type 0 where
  pub least : 65536 ≤ l * share
  pub most : l * share < 65536 + l
  pub room : 600 < share

-- what is missing to the next row is less than what the share has too much
pub row_by_share : (l share number : ℕ) → 0 < l → l ≤ 25 → IsShare l share → number < l * l →
    number * share / 65536 ≡ number / l
row_by_share l share number some few is low =
    let q = number / l in
    let r = number % l in
    let e = l * share - 65536 in
    let split : q * l + r ≡ number = omega (arith, div-add-mod number l) in
    let q_low : q < l = div_below number l l some low in
    let r_low : r < l = mod-lt number some in
    let shared : l * share ≡ 65536 + e = omega (arith, is.least) in
    let e_low : e < l = omega (arith, is.least, is.most) in
    let parts : (q * l + r) * share ≡ q * (l * share) + r * share = omega arith in
    let rest : q * (65536 + e) ≡ q * 65536 + q * e = omega arith in
    let whole : number * share ≡ q * 65536 + (q * e + r * share) =
    ap (λ m. m * share) (sym split) ∙ parts ∙ ap (λ k. q * k + r * share) shared ∙ ap (λ k. k + r * share) rest
    ∙ (let z : q * 65536 + q * e + r * share ≡ q * 65536 + (q * e + r * share) = omega arith in z) in
    let qe : q * e ≤ 24 * 24 = mul-le q e 24 24 (omega (arith, q_low, few)) (omega (arith, e_low, few)) in
    let next : (r + 1) * share ≤ l * share = mul-le (r + 1) share l share (omega (arith, r_low)) (omega arith) in
    let one : (r + 1) * share ≡ r * share + share = omega arith in
    ap (λ m. m / 65536) whole ∙ div-mul-add q 65536 (q * e + r * share)
    (omega (arith, qe, next, one, shared, e_low, few, is.room))

-- a word has room for the product
pub product_fits : (l share number : ℕ) → 0 < l → l ≤ 25 → IsShare l share → number < l * l → number * share < 2 ^ 32
product_fits l share number some few is low =
    let square : l * l ≤ 25 * 25 = mul-le l l 25 25 few few in
    let once : 1 * share ≤ l * share = mul-le 1 share l share (omega (arith, some)) (omega arith) in
    let most : number * share ≤ 625 * 65561 =
    mul-le number share 625 65561 (omega (arith, low, square)) (omega (arith, once, is.most, few)) in
    omega (arith, most)

-- the test of it for each number of lines
is_share : ℕ → ℕ → Bool
is_share l share = nat_le 65536 (l * share) && (nat_lt (l * share) (65536 + l) && nat_lt 600 share)

from_test : (l share : ℕ) → is_share l share ≡ true → IsShare l share
unfolding is_share
from_test l share e =
    let least = and_parts (nat_le 65536 (l * share)) (nat_lt (l * share) (65536 + l) && nat_lt 600 share) e in
    let others = and_parts (nat_lt (l * share) (65536 + l)) (nat_lt 600 share) least.1 in
    record { least = leb-true _ _ least.0; most = ltb-true _ _ others.0; room = ltb-true _ _ others.1 }

all_below : ℕ → Bool
all_below zero = true
all_below (suc l) = is_share (suc l) (slice_index SHARES (suc l)) && all_below l

each : (k l : ℕ) → all_below k ≡ true → 0 < l → l ≤ k → is_share l (slice_index SHARES l) ≡ true
unfolding all_below
each zero l all some low = absurd (omega (arith, some, low))
each (suc k) l all some low =
    let parts = and_parts (is_share (suc k) (slice_index SHARES (suc k))) (all_below k) all in
    elim (cases_eq l (suc k)) [
      | inl is ↦ ap (λ j. is_share j (slice_index SHARES j)) is ∙ parts.0
      | inr off ↦ each k l parts.1 some (omega (arith, off, low))
    ]

pub shares : (l : ℕ) → 0 < l → l ≤ 25 → IsShare l (slice_index SHARES l)
unfolding all_below is_share
shares l some few = from_test l (slice_index SHARES l) (each 25 l refl some few)
