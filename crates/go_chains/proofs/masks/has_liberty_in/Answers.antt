use Rattle.std.specs.Prelude.{slice_index}
use Rattle.std.proofs.Common.{arith, ◌≡◌, ◌≢◌, ◌∙◌, ap, bit_and}
use Rattle.std.proofs.lemmas.Bool.Decides.{nat_tests}
use Rattle.std.proofs.lemmas.Nat.{and_le_l}
use Rattle.go_chains.proofs.answers.Dead.{none_in, some_in}
use Rattle.go_chains.proofs.masks.has_liberty_in.Goals as goal

pub returns-clause-some : goal.returns-clause-some
returns-clause-some g c is =
    let some : bit_and c.get.result c.args.mask ≢ 0 = λ e. (grind (arith, nat_tests, is, e)) in
    some_in c.args.cells.now.numbers c.args.label c.args.word c.args.mask c.get.result
    (let a = and_le_l c.get.result c.args.mask in let b = c.get.type_inv in omega arith)
    (c.get.ensures.value ∙ ap (slice_index c.args.cells.now.numbers) c.word_place.ensures.value) some

pub returns-clause-none : goal.returns-clause-none
returns-clause-none g c is =
    let none : bit_and c.get.result c.args.mask ≡ 0 = grind (arith, nat_tests, is) in
    none_in c.args.cells.now.numbers c.args.label c.args.word c.args.mask c.get.result
    (c.get.ensures.value ∙ ap (slice_index c.args.cells.now.numbers) c.word_place.ensures.value) none
