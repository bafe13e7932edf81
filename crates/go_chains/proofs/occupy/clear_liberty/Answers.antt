use Rattle.std.specs.Int.{bit_not}
use Rattle.std.specs.Prelude.{bit_and, slice_index}
use Rattle.std.proofs.Common.{◌%◌, ◌*◌, ◌^◌, ℕ, ap, subst, ◌∙◌, w64}
use Rattle.go_chains.specs.inner.Writes.{IsWritten}
use Rattle.go_chains.proofs.writes.Depriving.{IsDeprived_cleared}
use Rattle.go_chains.proofs.occupy.clear_liberty.Goals as goal

pub returns-clause-deprived : goal.returns-clause-deprived
returns-clause-deprived g c =
    let P : ℕ → Type 0 = λ k. IsWritten c.args.cells.now.numbers c.replace.new.cells.numbers k
    (bit_and c.get-word.result (bit_not w64 (1 * 2 ^ (c.args.point % 64) % 2 ^ 64))) in
    IsDeprived_cleared c.args.cells.now.numbers c.replace.new.cells.numbers c.args.label c.args.point c.get-word.result
    c.requires.label c.requires.point
    (c.get-word.ensures.value ∙ ap (slice_index c.args.cells.now.numbers) c.word_place-place.ensures.value)
    (subst P c.word_place-place.ensures.value c.replace.ensures.written)
