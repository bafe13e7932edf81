use Rattle.std.proofs.Common.{◌++◌, [], List, ◌∙◌, refl, ap, sym, subst, arith}
use Rattle.std.proofs.lemmas.List.{append-nil}
use Rattle.std.proofs.lemmas.Result.{err_from_is_err_and}
use Rattle.std.specs.List.{flat_map}
use Rattle.std.specs.Prelude.{Err}
use Rattle.go_sgf.specs.Record.{Property}
use Rattle.go_record.specs.MainLine.{Event, move_event, setup_event}
use Rattle.go_record.specs.inner.Progress.{AreMoves, Passes, Stops}
use Rattle.go_record.proofs.Walking.{one_on, passes_nothing, passes_passes, passes_stops, stops_longer, walked_stops}
use Rattle.go_record.proofs.state.Walk.visit_properties.Goals as goal

pub loop-name-init : goal.loop-name-init
loop-name-init c = record {
  onward = omega arith;
  passed = λ properties nodes l. (
    properties,
    ([], l),
    [],
    refl,
    λ game. passes_nothing (c.args.self.now, game),
    [],
    refl,
    refl,
  );
}

pub returns-in_err-visit_property-clause-walked : goal.returns-in_err-visit_property-clause-walked
returns-in_err-visit_property-clause-walked c = λ properties nodes l game.
    let p = err_from_is_err_and c.from_residual.result c.from_residual.ensures.1 in
    let e = c.in_err-visit_property.field-0.0 in
    let f = setup_event c.args.node in
    let i = c.loop-name.invariant.passed properties nodes l in
    let next = c.in-Some.ensures.next i.1.0 i.0 nodes i.1.1 in
    let kind_is = c.kind_of.ensures next.0 next.3 in
    walked_stops c.from_residual.result e (c.args.self.now, game) (c.visit_property.new.self, game) _ (p.1 ∙ ap Err p.2)
    (subst (λ (es : List Event). Stops (c.args.self.now, game) es e)
    (one_on f i.2 i.0 next.0 next.1 next.2 ∙ i.3)
    (stops_longer (passes_stops (i.4 game)
    (subst (λ (es : List Event). Stops (c.loop-name.self, game) es e) (sym (kind_is.setup c.args.node))
    (c.in_err-visit_property.ensures.walked next.0.values next.1 nodes next.4 game)))
    (flat_map f next.1)))

pub loop-name-preserved : goal.loop-name-preserved
loop-name-preserved c = record {
  onward = omega (arith, c.loop-name.invariant.onward, c.in-Some.ensures.shorter, c.visit_property.ensures.onward);
  passed = λ properties nodes l.
      let f = setup_event c.args.node in
      let i = c.loop-name.invariant.passed properties nodes l in
      let next = c.in-Some.ensures.next i.1.0 i.0 nodes i.1.1 in
      let kind_is = c.kind_of.ensures next.0 next.3 in (
        next.1,
        c.visit_property.ensures.cursor next.1 nodes (next.0.values, next.4),
        i.2 ++ f next.0,
        one_on f i.2 i.0 next.0 next.1 next.2 ∙ i.3,
        λ game. passes_passes (i.4 game)
            (subst (λ (es : List Event). Passes (c.loop-name.self, game) es (c.visit_property.new.self, game))
            (sym (kind_is.setup c.args.node)) (c.in_ok-visit_property.ensures.walked next.0.values next.1 nodes next.4 game)),
        i.5 ++ move_event c.args.node next.0,
        one_on (move_event c.args.node) i.5 i.0 next.0 next.1 next.2 ∙ i.6,
        subst (λ (es : List Event). AreMoves c.args.node c.visit_property.new.moves (i.5 ++ es))
            (sym (kind_is.moves c.args.node)) (c.visit_property.ensures.moves next.0.values next.1 nodes next.4 i.5 i.7),
      );
}

pub loop-name-smaller : goal.loop-name-smaller
loop-name-smaller c = omega (arith, c.in-Some.ensures.shorter, c.visit_property.ensures.onward)

pub returns-clause-walked : goal.returns-clause-walked
returns-clause-walked c = λ properties nodes l game.
    let i = c.loop-name.invariant.passed properties nodes l in
    let end = c.in_default.ensures.next i.1.0 i.0 nodes i.1.1 in
    subst (λ (es : List Event). Passes (c.args.self.now, game) es (c.loop-name.self, game))
    (sym (append-nil i.2) ∙ ap (λ (ps : List Property). i.2 ++ flat_map (setup_event c.args.node) ps) (sym end.0) ∙ i.3)
    (i.4 game)

pub returns-clause-moves : goal.returns-clause-moves
returns-clause-moves c = λ properties nodes l.
    let i = c.loop-name.invariant.passed properties nodes l in
    let end = c.in_default.ensures.next i.1.0 i.0 nodes i.1.1 in
    subst (AreMoves c.args.node c.loop-name.moves)
    (sym (append-nil i.5) ∙ ap (λ (ps : List Property). i.5 ++ flat_map (move_event c.args.node) ps) (sym end.0) ∙ i.6)
    i.7

pub returns-clause-cursor : goal.returns-clause-cursor
returns-clause-cursor c = λ properties nodes l.
    let i = c.loop-name.invariant.passed properties nodes l in
    (c.in_default.ensures.next i.1.0 i.0 nodes i.1.1).1

pub returns-clause-onward : goal.returns-clause-onward
returns-clause-onward c = omega (arith, c.loop-name.invariant.onward, c.in_default.ensures.onward)
