use Rattle.std.proofs.Common.{◌≡◌, ◌≤◌, ◌∷◌, ◌∙◌, ap, sym, length, arith}
use Rattle.go_sgf.specs.Spelling.{without_space}
use Rattle.go_sgf.proofs.LineWalks.{child_entered, child_missing, node_entered, node_missing, shorter_rest}
use Rattle.go_sgf.proofs.Parts.{length-after_space}
use Rattle.go_sgf.proofs.main_line.to_node.Goals as goal

pub returns-in-Some-clause-some : goal.returns-in-Some-clause-some
returns-in-Some-clause-some c =
    child_entered c.strip-in-Some.result c.args.text.now c.in-Some.child.now
    (sym c.after_space-here.ensures ∙ c.in-Some.ensures.stripped)
    (rw c.after_space.ensures at c.strip-in-Some.ensures.stripped)

pub returns-in-Some-clause-none : goal.returns-in-Some-clause-none
returns-in-Some-clause-none c =
    child_missing c.strip-in-Some.result c.args.text.now c.in-Some.child.now
    (sym c.after_space-here.ensures ∙ c.in-Some.ensures.stripped)
    (rw c.after_space.ensures at c.strip-in-Some.ensures.other)

pub returns-in-Some-clause-shorter : goal.returns-in-Some-clause-shorter
returns-in-Some-clause-shorter c =
    let whole : without_space c.args.text.now ≡ 40 ∷ c.in-Some.child.now = sym c.after_space-here.ensures
    ∙ c.in-Some.ensures.stripped in
    let less : length (without_space c.in-Some.child.now) ≤ length c.args.text.now =
    omega (arith, length-after_space c.in-Some.child.now, length-after_space c.args.text.now, ap length whole) in
    shorter_rest c.strip-in-Some.result c.args.text.now (without_space c.in-Some.child.now) less
    (rw c.after_space.ensures at c.strip-in-Some.ensures.stripped)

pub returns-in-None-clause-some : goal.returns-in-None-clause-some
returns-in-None-clause-some c =
    node_entered c.strip-in-None.result c.args.text.now
    (rw c.after_space-here.ensures at c.strip-in-None.ensures.stripped)

pub returns-in-None-clause-none : goal.returns-in-None-clause-none
returns-in-None-clause-none c =
    node_missing c.strip-in-None.result c.args.text.now (rw c.after_space-here.ensures at c.in-None.ensures.other)
    (rw c.after_space-here.ensures at c.strip-in-None.ensures.other)

pub returns-in-None-clause-shorter : goal.returns-in-None-clause-shorter
returns-in-None-clause-shorter c =
    shorter_rest c.strip-in-None.result c.args.text.now (without_space c.args.text.now)
    (length-after_space c.args.text.now)
    (rw c.after_space-here.ensures at c.strip-in-None.ensures.stripped)
