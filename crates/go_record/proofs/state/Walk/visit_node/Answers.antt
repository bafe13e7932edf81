use Rattle.std.proofs.Common.{◌≡◌, ◌++◌, ◌∷◌, ◌∙◌, [], List, ap, subst, sym}
use Rattle.std.specs.List.{flat_map}
use Rattle.std.specs.Prelude.{Err}
use Rattle.std.proofs.lemmas.List.{append-nil}
use Rattle.std.proofs.lemmas.Result.{err_from_is_err_and}
use Rattle.go_sgf.specs.MainLine.{IsLeft}
use Rattle.go_record.specs.MainLine.{Event, move_event, move_met, setup_event}
use Rattle.go_record.specs.declared.moves.MovesMet.{MovesMet}
use Rattle.go_record.specs.inner.Progress.{AreMoves, Passes, Walked}
use Rattle.go_record.proofs.Walking.{stops_longer, walked_after, walked_stops}
use Rattle.go_record.proofs.state.Walk.visit_node.Goals as goal

pub returns-in_err-visit_properties-clause-walked : goal.returns-in_err-visit_properties-clause-walked
returns-in_err-visit_properties-clause-walked g c = λ ps nodes l.
    let p = err_from_is_err_and c.from_residual.result c.from_residual.ensures.1 in
    walked_stops c.from_residual.result c.in_err-visit_properties.field-0.0 (c.args.self.now, c.args.game.now)
    (c.visit_properties.new.self, c.args.game.now) _ (p.1 ∙ ap Err p.2)
    (stops_longer (c.in_err-visit_properties.ensures.walked ps nodes l c.args.game.now) _)

pub returns-in-NoMove-clause-walked : goal.returns-in-NoMove-clause-walked
returns-in-NoMove-clause-walked g c = λ ps nodes l.
    let setup = flat_map (setup_event c.args.node) ps in
    let none : flat_map (move_event c.args.node) ps ≡ [] =
    subst (λ (m : MovesMet). AreMoves c.args.node m (flat_map (move_event c.args.node) ps)) c.in-NoMove.is
    (c.in_ok-visit_properties.ensures.moves ps nodes l) in
    subst (λ (es : List Event). Passes (c.args.self.now, c.args.game.now) es (c.visit_properties.new.self, c.args.game.now))
    (sym (append-nil setup) ∙ ap (λ es. setup ++ es) (sym none))
    (c.in_ok-visit_properties.ensures.walked ps nodes l c.args.game.now)

pub returns-in-OneMove-clause-walked : goal.returns-in-OneMove-clause-walked
returns-in-OneMove-clause-walked g c = λ ps nodes l.
    let one : flat_map (move_event c.args.node) ps ≡ move_met c.args.node c.in-OneMove.colour c.in-OneMove.value.now
    ∷ [] =
    subst (λ (m : MovesMet). AreMoves c.args.node m (flat_map (move_event c.args.node) ps)) c.in-OneMove.is
    (c.in_ok-visit_properties.ensures.moves ps nodes l) in
    walked_after c.play_unless_over.result (c.args.self.now, c.args.game.now) (c.visit_properties.new.self, c.args.game.now)
    (c.play_unless_over.new.self, c.play_unless_over.new.game)
    (flat_map (setup_event c.args.node) ps) (flat_map (move_event c.args.node) ps)
    (c.in_ok-visit_properties.ensures.walked ps nodes l c.args.game.now)
    (subst (λ (es : List Event). Walked c.play_unless_over.result (c.visit_properties.new.self, c.args.game.now) es
    (c.play_unless_over.new.self, c.play_unless_over.new.game)) (sym one) c.play_unless_over.ensures)

pub returns-in-MoreMoves-clause-walked : goal.returns-in-MoreMoves-clause-walked
returns-in-MoreMoves-clause-walked g c = λ ps nodes l.
    let again : IsLeft c.fork-again.result [] ps nodes = rw c.fork-again.ensures l in
    walked_after c.play_moves.result (c.args.self.now, c.args.game.now) (c.visit_properties.new.self, c.args.game.now)
    (c.play_moves.new.self, c.play_moves.new.game)
    (flat_map (setup_event c.args.node) ps) (flat_map (move_event c.args.node) ps)
    (c.in_ok-visit_properties.ensures.walked ps nodes l c.args.game.now) (c.play_moves.ensures ps nodes again)
