use Rattle.std.specs.Int.RustNames.{bit_or}
use Rattle.std.specs.Prelude.{slice_index}
use Rattle.std.proofs.Common.{◌%◌, ◌*◌, ◌^◌, ℕ, ap, subst, ◌∙◌}
use Rattle.go_chains.specs.inner.Writes.{IsWritten}
use Rattle.go_chains.proofs.writes.Lifting.{IsGiven_set}
use Rattle.go_chains.proofs.lift.set_liberty.Goals as goal

pub returns-clause-given : goal.returns-clause-given
returns-clause-given g c =
    let P : ℕ → Type 0 = λ k. IsWritten c.args.cells.now.numbers c.replace.new.cells.numbers k
    (bit_or c.get-word.result (1 * 2 ^ (c.args.point % 64) % 2 ^ 64)) in
    IsGiven_set c.args.cells.now.numbers c.replace.new.cells.numbers c.args.label c.args.point c.get-word.result
    c.requires.label c.requires.point
    (c.get-word.ensures.value ∙ ap (slice_index c.args.cells.now.numbers) c.word_place-place.ensures.value)
    (subst P c.word_place-place.ensures.value c.replace.ensures.written)
