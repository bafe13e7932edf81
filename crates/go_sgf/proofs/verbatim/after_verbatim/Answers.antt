use Rattle.std.proofs.Common.{[], ◌+◌, refl, sym, ◌∙◌, take, drop, arith}
use Rattle.std.proofs.lemmas.List.{length-drop}
use Rattle.go_sgf.specs.Record.{IsValue}
use Rattle.go_sgf.specs.inner.Reads.{IsBracketAt}
use Rattle.go_sgf.specs.inner.Tidied.{Outside}
use Rattle.go_sgf.proofs.Passed.{all_stays, nothing_given, semicolon_stays, stays, stays_a_byte, stays_a_value, stays_from_bracket, stays_to_end, upper_stays}
use Rattle.go_sgf.proofs.verbatim.after_verbatim.Goals as goal
use Rattle.go_sgf.proofs.verbatim.after_verbatim.Goals.{then-byte-eq59, else-byte-eq59}

pub loop-place-init : goal.loop-place-init
loop-place-init c = record {
  within = omega arith;
  stays = λ d some. stays Outside d d c.args.text.now c.args.text.now [] refl (nothing_given Outside d c.args.text.now);
}

pub loop-place-preserved-then-byte-eq91 : goal.loop-place-preserved-then-byte-eq91
loop-place-preserved-then-byte-eq91 c =
    let text = c.args.text.now in
    let place = c.loop-place.place in
    let length' = c.in-Some.length in
    let value : IsValue (take length' (drop (place + 1) text)) =
    rw (← c.split_at.ensures.back) c.in-Some.ensures.inside in
    let end : IsBracketAt (drop (place + 1) text) length' = rw (← c.split_at.ensures.back) c.in-Some.ensures.bracket in
    record {
      within = omega (arith, c.loop-place-test.true, end.0, length-drop (place + 1) text);
      stays = λ d some.
          stays_a_value d place length' text some c.loop-place-test.true c.if-byte-eq91.true
          (c.loop-place.invariant.stays d some) value end;
    }

pub loop-place-smaller-then-byte-eq91 : goal.loop-place-smaller-then-byte-eq91
loop-place-smaller-then-byte-eq91 c = omega (arith, c.loop-place-test.true)

pub loop-place-preserved : goal.loop-place-preserved
loop-place-preserved c =
    let i = c.loop-place.invariant in
    record {
      within = omega (arith, c.loop-place-test.true);
      stays = λ d some.
          stays_a_byte d c.loop-place.place c.args.text.now c.loop-place-test.true (i.stays d some)
          (λ more. elim c.if-byte-eq59.branch [
            | then-byte-eq59 w ↦ semicolon_stays d _ more some w.if-byte-eq59.true
            | else-byte-eq59 w ↦ upper_stays d _ more some
                (sym w.is_upper.ensures ∙ sym w.value-is ∙ c.if-is_upper.true)
          ]);
    }

pub loop-place-smaller : goal.loop-place-smaller
loop-place-smaller c = omega (arith, c.loop-place-test.true)

pub returns-clause-stays : goal.returns-clause-stays
returns-clause-stays c = λ d some. stays_to_end c.loop-place-test.false (c.loop-place.invariant.stays d some)

pub returns-in_default-clause-stays : goal.returns-in_default-clause-stays
returns-in_default-clause-stays c = λ d some.
    stays_from_bracket d c.loop-place.place c.args.text.now [] some c.loop-place-test.true c.if-byte-eq91.true
    (c.loop-place.invariant.stays d some)
    (rw (← c.split_at.ensures.back) (all_stays c.split_at.result.1.now c.in_default.ensures.unended))
