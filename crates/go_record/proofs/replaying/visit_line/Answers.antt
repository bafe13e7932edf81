use Rattle.std.proofs.Common.{◌∙◌, ◌+◌, ◌++◌, [], List, ap, subst, sym, refl}
use Rattle.std.specs.Prelude.{Err}
use Rattle.std.proofs.lemmas.List.{append-nil}
use Rattle.std.proofs.lemmas.Result.{err_from_is_err_and}
use Rattle.go_sgf.specs.MainLine.{IsLeft, main_line}
use Rattle.go_sgf.specs.Record.{Property, Trees}
use Rattle.go_record.specs.MainLine.{Event, events_from, events_of}
use Rattle.go_record.specs.inner.Progress.{Passes, Stops, WalkedGame}
use Rattle.go_record.proofs.Lines.{node_on}
use Rattle.go_record.proofs.Walking.{passes_nothing, passes_over, passes_passes, passes_stops, stops_longer, walked_stops}
use Rattle.go_record.proofs.replaying.visit_line.Goals as goal

pub loop-cursor-init : goal.loop-cursor-init
loop-cursor-init g c = λ t s.
    let of = c.of-cursor.ensures in
    let same = c.one_record.ensures c.args.checked.now of.0 t of.1 s in (
      main_line t,
      subst (λ (u : Trees). IsLeft c.of-cursor.result [] [] (main_line u)) same of.2,
      [],
      refl,
      passes_nothing (c.args.walk.now, c.args.game.now),
    )

pub loop-cursor-preserved : goal.loop-cursor-preserved
loop-cursor-preserved g c = λ t s.
    let i = c.loop-cursor.invariant t s in
    let next = c.loop-cursor-test.ensures.next [] [] i.0 i.1 in (
      next.1,
      c.in_ok-visit_node.ensures.cursor next.0 next.1 next.3,
      i.2 ++ events_of c.loop-cursor.count next.0,
      node_on c.loop-cursor.count c.in_ok-count.count i.2 i.0 next.0 next.1 next.2 c.in_ok-count.ensures.ok ∙ i.3,
      passes_passes i.4 (c.in_ok-visit_node.ensures.walked next.0 next.1 next.3),
    )

pub returns : goal.returns
returns g c = λ t s.
    let i = c.loop-cursor.invariant t s in
    let none = (c.loop-cursor-test.ensures.next [] [] i.0 i.1).0 in
    subst (λ (es : List Event). Passes (c.args.walk.now, c.args.game.now) es (c.loop-cursor.walk, c.loop-cursor.game))
    (sym (append-nil i.2) ∙ ap (λ (ns : List (List Property)). i.2 ++ events_from c.loop-cursor.count ns) (sym none)
    ∙ i.3) i.4

pub returns-in_err-visit_node : goal.returns-in_err-visit_node
returns-in_err-visit_node g c = λ t s.
    let p = err_from_is_err_and c.from_residual.result c.from_residual.ensures.1 in
    let e = c.in_err-visit_node.field-0.0 in
    let count = c.loop-cursor.count in
    let i = c.loop-cursor.invariant t s in
    let next = c.loop-cursor-test.ensures.next [] [] i.0 i.1 in
    walked_stops c.from_residual.result e (c.args.walk.now, c.args.game.now)
    (c.visit_node.new.self, c.visit_node.new.game) _ (p.1 ∙ ap Err p.2)
    (subst (λ (es : List Event). Stops (c.args.walk.now, c.args.game.now) es e)
    (node_on count (count + 1) i.2 i.0 next.0 next.1 next.2 refl ∙ i.3)
    (stops_longer (passes_stops i.4 (c.in_err-visit_node.ensures.walked next.0 next.1 next.3))
    (events_from (count + 1) next.1)))

pub returns-then-is_over : goal.returns-then-is_over
returns-then-is_over g c = λ t s.
    let count = c.loop-cursor.count in
    let i = c.loop-cursor.invariant t s in
    let next = c.loop-cursor-test.ensures.next [] [] i.0 i.1 in
    let new : WalkedGame = (c.visit_node.new.self, c.visit_node.new.game) in
    subst (λ (es : List Event). Passes (c.args.walk.now, c.args.game.now) es new)
    (node_on count (count + 1) i.2 i.0 next.0 next.1 next.2 refl ∙ i.3)
    (passes_passes (passes_passes i.4 (c.in_ok-visit_node.ensures.walked next.0 next.1 next.3))
    (passes_over new (sym c.is_over.ensures ∙ c.if-is_over.true) (events_from (count + 1) next.1)))
