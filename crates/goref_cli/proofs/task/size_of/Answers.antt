use Rattle.std.proofs.Common.{arith, ◌≡◌, ◌∙◌, Some, codes, sym}
use Rattle.std.proofs.lemmas.Option.{IfSome_then}
use Rattle.std.specs.Fmt.{decimal}
use Rattle.clap.specs.Words.{found_of}
use Rattle.clap.proofs.WalkLemmas.{one_text-rows}
use Rattle.goref_cli.proofs.Sizes.{decimal_read, number_read}
use Rattle.goref_cli.proofs.task.size_of.Goals as goal

pub returns-in_err-get_one-clause-some : goal.returns-in_err-get_one-clause-some
returns-in_err-get_one-clause-some c n size is =
    let high = size.1 in
    let text = one_text-rows (found_of c.args.matches.now) (codes "size") ∙ is in
    let got = decimal_read n c.get_one.result (omega arith) (c.get_one.ensures.value (decimal n) text) in
    let none = c.in_err-get_one.was in
    cc

pub returns-clause-is : goal.returns-clause-is
returns-clause-is c =
    let got = number_read _ c.get_one.result c.in_ok-get_one.field-0 c.get_one.ensures.none c.get_one.ensures.value
    c.in_ok-get_one.was in
    let text = sym (one_text-rows (found_of c.args.matches.now) (codes "size")) ∙ got.1 in
    IfSome_then c.new.result c.new.ensures.value (λ s lines. (got.0, text, got.2 ∙ sym lines))

pub returns-clause-some : goal.returns-clause-some
returns-clause-some c n size is =
    let high = size.1 in
    let text = one_text-rows (found_of c.args.matches.now) (codes "size") ∙ is in
    let got = decimal_read n c.get_one.result (omega arith) (c.get_one.ensures.value (decimal n) text) in
    let same : Some c.in_ok-get_one.field-0 ≡ Some n = sym c.in_ok-get_one.was ∙ got in
    let value : c.in_ok-get_one.field-0 ≡ n = cc in
    c.new.ensures.range.1 (rw (value) size.0, rw (value) size.1)
