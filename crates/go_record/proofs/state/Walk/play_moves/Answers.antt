use Rattle.std.proofs.Common.{◌++◌, [], List, ◌∙◌, refl, ap, sym, subst, arith}
use Rattle.std.proofs.lemmas.List.{append-nil}
use Rattle.std.proofs.lemmas.Result.{err_from_is_err_and}
use Rattle.std.specs.List.{flat_map}
use Rattle.std.specs.Prelude.{Err}
use Rattle.go_sgf.specs.Record.{Property}
use Rattle.go_record.specs.MainLine.{Event, move_event}
use Rattle.go_record.specs.inner.Progress.{Passes, Stops}
use Rattle.go_record.proofs.Walking.{one_on, passes_nothing, passes_passes, passes_stops, stops_longer, walked_stops}
use Rattle.go_record.proofs.state.Walk.play_moves.Goals as goal

pub loop-name-init : goal.loop-name-init
loop-name-init g c = λ properties nodes l.
    (properties, ([], l), [], refl, passes_nothing (c.args.self.now, c.args.game.now))

pub returns-in_err-visit_move : goal.returns-in_err-visit_move
returns-in_err-visit_move g c = λ properties nodes l.
    let p = err_from_is_err_and c.from_residual.result c.from_residual.ensures.1 in
    let e = c.in_err-visit_move.field-0.0 in
    let f = move_event c.args.node in
    let i = c.loop-name.invariant properties nodes l in
    let next = c.in-Some.ensures.next i.1.0 i.0 nodes i.1.1 in
    let kind_is = c.kind_of.ensures next.0 next.3 in
    walked_stops c.from_residual.result e (c.args.self.now, c.args.game.now)
    (c.visit_move.new.self, c.visit_move.new.game) _ (p.1 ∙ ap Err p.2)
    (subst (λ (es : List Event). Stops (c.args.self.now, c.args.game.now) es e)
    (one_on f i.2 i.0 next.0 next.1 next.2 ∙ i.3)
    (stops_longer (passes_stops i.4
    (subst (λ (es : List Event). Stops (c.loop-name.self, c.loop-name.game) es e) (sym (kind_is.moves c.args.node))
    (c.in_err-visit_move.ensures.walked next.0.values next.1 nodes next.4)))
    (flat_map f next.1)))

pub loop-name-preserved : goal.loop-name-preserved
loop-name-preserved g c = λ properties nodes l.
    let f = move_event c.args.node in
    let i = c.loop-name.invariant properties nodes l in
    let next = c.in-Some.ensures.next i.1.0 i.0 nodes i.1.1 in
    let kind_is = c.kind_of.ensures next.0 next.3 in (
      next.1,
      c.visit_move.ensures.cursor next.1 nodes (next.0.values, next.4),
      i.2 ++ f next.0,
      one_on f i.2 i.0 next.0 next.1 next.2 ∙ i.3,
      passes_passes i.4
          (subst (λ (es : List Event). Passes (c.loop-name.self, c.loop-name.game) es (c.visit_move.new.self, c.visit_move.new.game))
          (sym (kind_is.moves c.args.node)) (c.in_ok-visit_move.ensures.walked next.0.values next.1 nodes next.4)),
    )

pub loop-name-smaller : goal.loop-name-smaller
loop-name-smaller g c = omega (arith, c.in-Some.ensures.shorter, c.visit_move.ensures.onward)

pub returns : goal.returns
returns g c = λ properties nodes l.
    let i = c.loop-name.invariant properties nodes l in
    let end = c.in_default.ensures.next i.1.0 i.0 nodes i.1.1 in
    subst (λ (es : List Event). Passes (c.args.self.now, c.args.game.now) es (c.loop-name.self, c.loop-name.game))
    (sym (append-nil i.2) ∙ ap (λ (ps : List Property). i.2 ++ flat_map (move_event c.args.node) ps) (sym end.0) ∙ i.3)
    i.4
