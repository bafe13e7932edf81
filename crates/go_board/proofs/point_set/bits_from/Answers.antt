use Rattle.std.specs.Int.{bit_at, bit_not}
use Rattle.std.proofs.Common.{arith, ◌+◌, ◌*◌, ◌-◌, ◌%◌, ◌^◌, ◌≡◌, ◌<◌, ◌≤◌, ◌∙◌, ℕ, ap, inl, inr, w64}
use Rattle.std.proofs.lemmas.Bool.{cases_lt}
use Rattle.std.proofs.lemmas.Nat.{one_shl}
use Rattle.std.proofs.lemmas.Nat.Bits.{bit_at-lt, bit_at_and, bit_at_not, bit_at_ones, bit_at_ones_above}
use Rattle.go_board.proofs.point_set.bits_from.Goals as goal

pub returns-then-word-first : goal.returns-then-word-first
returns-then-word-first c i low =
    let first : ℕ = c.args.first in
    let point : ℕ = 64 * c.args.word + i in
    let bits = c.args.bits in
    let k : ℕ = first % 64 in
    let mask : ℕ = 1 * 2 ^ k % 2 ^ 64 - 1 in
    let short : k < 64 = omega arith in
    let same = one_shl k 64 short in
    let both = bit_at_and bits (bit_not w64 mask) i in
    let neg = bit_at_not w64 mask i (omega arith) low in
    let few = bit_at-lt bits i in
    elim (cases_lt i k) [
      | inr past ↦
          let none : bit_at mask i ≡ 0 = ap (λ m. bit_at (m - 1) i) same ∙ bit_at_ones_above k i past in
          let at : first ≤ point = omega (arith, past, c.if-word-first.true) in
          (λ set. (at, omega (arith, both, neg, none, few, set)), λ own. omega (arith, both, neg, none, few, own.1))
      | inl before ↦
          let some : bit_at mask i ≡ 1 = ap (λ m. bit_at (m - 1) i) same ∙ bit_at_ones k i before in (
            λ set. absurd (omega (arith, both, neg, some, set)),
            λ own.
                absurd (omega (arith, before, own.0, c.if-word-first.true)),
          )
    ]
