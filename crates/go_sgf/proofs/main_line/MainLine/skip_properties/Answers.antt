use Rattle.std.proofs.Common.{arith}
use Rattle.go_sgf.proofs.main_line.MainLine.skip_properties.Goals as goal

pub loop-preserved : goal.loop-preserved
loop-preserved c = record {
  onward = omega (arith, c.loop.invariant.onward, c.in-Some.ensures.shorter);
  line = λ vs ps ns l.
      let i = c.loop.invariant.line vs ps ns l in
      let next = c.in-Some.ensures.next i.0 i.1 ns i.2 in
      (next.0.values, next.1, next.4);
}

pub returns-clause-line : goal.returns-clause-line
returns-clause-line c = λ vs ps ns l.
    let i = c.loop.invariant.line vs ps ns l in
    (c.in_default.ensures.next i.0 i.1 ns i.2).1

pub returns-clause-onward : goal.returns-clause-onward
returns-clause-onward c = omega (arith, c.loop.invariant.onward, c.in_default.ensures.onward)
