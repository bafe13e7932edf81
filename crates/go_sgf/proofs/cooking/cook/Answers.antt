use Rattle.std.proofs.Common.{◌∙◌}
use Rattle.go_sgf.proofs.Prefixed.{by_bytes, cooked_all, cooked_on}
use Rattle.go_sgf.proofs.cooking.cook.Goals as goal

pub loop-byte-preserved : goal.loop-byte-preserved
loop-byte-preserved g c =
    rw (c.in_ok-push_given.ensures, c.step-next.ensures)
    (cooked_on c.args.line_break c.loop-byte.mode c.args.value.now c.loop-byte.text.items c.loop-byte.byte-index
    c.loop-byte-test.true
    ∙ c.loop-byte.invariant)

pub returns : goal.returns
returns g c =
    cooked_all c.args.line_break c.loop-byte.mode c.args.value.now c.loop-byte.text.items c.loop-byte.byte-index
    c.loop-byte-test.false
    ∙ c.loop-byte.invariant ∙ by_bytes c.args.line_break c.args.value.now
