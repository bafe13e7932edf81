use Rattle.std.proofs.Common.{sym, ap, ◌∙◌, length, arith}
use Rattle.go_sgf.specs.inner.Tidied.{Outside, rest_from, tidied_from}
use Rattle.go_sgf.proofs.Passed.{left_out_after, left_out_tidied}
use Rattle.go_sgf.proofs.scan.after_left_out.Goals as goal

pub loop-first-preserved : goal.loop-first-preserved
loop-first-preserved c =
    let i = c.loop-first.invariant in
    let whole = c.in-Some.ensures.cases.0 in
    record {
      written = λ d some. i.written d some ∙ ap (tidied_from Outside d) whole
          ∙ left_out_tidied c.in-Some.first.now c.in-Some.more.now (sym c.if-not-is_left_out.ensures) d some;
      after = λ d some. i.after d some ∙ ap (rest_from Outside d) whole
          ∙ left_out_after c.in-Some.first.now c.in-Some.more.now (sym c.if-not-is_left_out.ensures) d some;
      shorter = omega (arith, i.shorter, ap length whole);
    }
