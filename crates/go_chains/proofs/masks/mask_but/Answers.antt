use Rattle.std.specs.Int.{bit_at, bit_not}
use Rattle.std.specs.Prelude.{bit_and}
use Rattle.std.proofs.Common.{arith, ◌+◌, ◌*◌, ◌%◌, ◌^◌, ◌∙◌, ap, inl, inr, w64}
use Rattle.std.proofs.lemmas.Bool.{cases_eq, cases_lt}
use Rattle.std.proofs.lemmas.Nat.Bits.{bit_at_clear_other, bit_at_clear_same}
use Rattle.go_chains.proofs.masks.mask_but.Goals as goal

pub returns-then-point-word : goal.returns-then-point-word
returns-then-point-word c i low =
    let mask = c.mask_of-mask.result in
    let at = c.args.point % 64 in
    elim (cases_eq i at) [
      | inl same ↦
          let gone = ap (bit_at (bit_and mask (bit_not w64 (1 * 2 ^ at % 2 ^ 64)))) same
          ∙ bit_at_clear_same w64 mask at (omega arith) in (
            λ one. omega (arith, gone, one),
            λ both. absurd (both.1 (omega (arith, same))),
          )
      | inr off ↦
          let kept = bit_at_clear_other w64 mask at (omega arith) i low off in (
            λ one. (
              elim (cases_lt (64 * c.args.word + i) c.args.points) [
                | inl inside ↦ inside
                | inr out ↦ absurd (let none = c.mask_of-mask.ensures.outside i low out in
                    omega (arith, kept, none, one))
              ],
              omega (arith, off),
            ),
            λ both. kept ∙ c.mask_of-mask.ensures.inside i low both.0,
          )
    ]
