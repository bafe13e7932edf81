use Rattle.std.proofs.Common.{◌≢◌, ◌∷◌, sym, ap, ◌∙◌, length, arith}
use Rattle.std.proofs.lemmas.Bool.{eq-eqb, true≢false}
use Rattle.go_sgf.specs.Spelling.{is_first}
use Rattle.go_sgf.specs.inner.Tidied.{Outside, StaysTo}
use Rattle.go_sgf.proofs.Passed.{byte_stays, stays_on}
use Rattle.go_sgf.proofs.verbatim.after_next.Goals as goal

pub returns-then-open-eq0-clause-stays : goal.returns-then-open-eq0-clause-stays
returns-then-open-eq0-clause-stays c =
    let byte = c.in_ok-byte.byte.now in
    let whole = c.in_ok-byte.ensures.cases.0 in
    let bracket : byte ≢ 91 = λ is.
    true≢false (sym (eq-eqb byte 91 is) ∙ sym (ap (is_first 91) whole) ∙ c.requires.outside c.if-depth-eq0.false) in
    rw (whole, c.depth_after-open.ensures.open)
    (byte_stays c.args.depth byte c.in_ok-byte.more.now c.if-depth-eq0.false (sym c.if-is_left_out.ensures) bracket)

pub returns-clause-stays : goal.returns-clause-stays
returns-clause-stays c =
    let byte = c.in_ok-byte.byte.now in
    let whole = c.in_ok-byte.ensures.cases.0 in
    let bracket : byte ≢ 91 = λ is.
    true≢false (sym (eq-eqb byte 91 is) ∙ sym (ap (is_first 91) whole) ∙ c.requires.outside c.if-depth-eq0.false) in
    let one : StaysTo Outside c.args.depth (byte ∷ c.in_ok-byte.more.now) c.depth_after-open.result
    c.in_ok-byte.more.now =
    rw c.depth_after-open.ensures.open
    (byte_stays c.args.depth byte c.in_ok-byte.more.now c.if-depth-eq0.false (sym c.if-is_left_out.ensures) bracket) in
    rw whole (stays_on one (c.after_verbatim.ensures.stays c.depth_after-open.result c.if-open-eq0.false))

pub returns-clause-bound : goal.returns-clause-bound
returns-clause-bound c =
    omega (
      arith,
      c.depth_after-open.ensures.bound,
      c.after_verbatim.ensures.shorter,
      ap length c.in_ok-byte.ensures.cases.0,
    )

pub returns-clause-shorter : goal.returns-clause-shorter
returns-clause-shorter c =
    omega (arith, c.after_verbatim.ensures.shorter, ap length c.in_ok-byte.ensures.cases.0)
