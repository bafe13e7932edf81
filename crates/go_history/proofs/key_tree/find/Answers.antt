use Rattle.std.proofs.Common.{◌≡◌, ◌≤◌, Some, false, rules, slice_index, slice_index_or, subst, sym}
use Rattle.go_history.specs.declared.entries.Entry.{Entry}
use Rattle.go_history.specs.inner.Trees.{IsMissing, digit_of, hashed_eq, slot}
use Rattle.go_history.proofs.Trees.{runs_out, stops_at}
use Rattle.go_history.proofs.key_tree.find.Goals as goal

pub returns-in_default-clause-none : goal.returns-in_default-clause-none
returns-in_default-clause-none g c =
    let here : (x : Entry) → hashed_eq c.args.hashed.now (slice_index_or c.args.entries.now.list c.loop-at.at x).hashed
    ≡ false = λ x. search rules in
    let end : slice_index c.args.links.now (slot c.loop-at.at (digit_of c.args.hashed.now c.loop-at.depth)) ≤
    c.loop-at.at = subst (λ digit. slice_index c.args.links.now (slot c.loop-at.at digit) ≤ c.loop-at.at)
    c.digit.ensures.value (rw c.in_default.is at c.child.ensures.none) in
    subst (λ digit. IsMissing c.args.entries.now.list c.args.links.now c.args.hashed.now.key
    (Some (slot c.loop-at.at digit))) (sym c.digit.ensures.value)
    (stops_at c.args.entries.now.list c.args.links.now c.args.hashed.now c.loop-at.depth c.loop-at.at c.loop-at.link
    c.requires.own c.requires.tree c.loop-at.invariant (search rules) here end)

pub returns-after-loop-at-clause-none : goal.returns-after-loop-at-clause-none
returns-after-loop-at-clause-none g c =
    runs_out c.args.entries.now.list c.args.links.now c.args.hashed.now c.loop-at.depth c.loop-at.at c.loop-at.link
    c.requires.own c.requires.tree c.loop-at.invariant (search rules)
