use Rattle.std.proofs.Common.{◌++◌, ◌∷◌, [], ℕ, List, ◌∙◌, sym, subst}
use Rattle.std.proofs.lemmas.List.{append-nil}
use Rattle.go_record.specs.MainLine.{move_met, turn}
use Rattle.go_record.specs.inner.Kinds.{move_by, setup_by}
use Rattle.go_record.specs.declared.kind.Kind.{Kind}
use Rattle.go_record.specs.inner.Progress.{AreMoves, Walked}
use Rattle.go_record.proofs.state.Walk.visit_property.Goals as goal

pub returns-in-Stones-clause-walked : goal.returns-in-Stones-clause-walked
returns-in-Stones-clause-walked c = λ values later nodes l game.
    subst (λ (k : Kind). Walked c.set_stones.result (c.args.self.now, game) (setup_by c.args.node k values)
    (c.set_stones.new.self, game))
    (sym c.in-Stones.is) (c.set_stones.ensures.walked values later nodes l game)

pub returns-in-Turn-clause-walked : goal.returns-in-Turn-clause-walked
returns-in-Turn-clause-walked c = λ values later nodes l game.
    subst (λ (k : Kind). Walked c.set_turn.result (c.args.self.now, game) (setup_by c.args.node k values)
    (c.set_turn.new.self, game))
    (sym c.in-Turn.is)
    (subst (λ (v : List ℕ). Walked c.set_turn.result (c.args.self.now, game) (turn c.args.node v ∷ [])
    (c.set_turn.new.self, game))
    (c.first_value.ensures.value values later nodes l) (c.set_turn.ensures game))

pub returns-in-Stones-clause-moves : goal.returns-in-Stones-clause-moves
returns-in-Stones-clause-moves c = λ values later nodes l before are.
    subst (λ (k : Kind). AreMoves c.args.node c.args.moves.now (before ++ move_by c.args.node k values))
    (sym c.in-Stones.is)
    (subst (AreMoves c.args.node c.args.moves.now) (sym (append-nil before)) are)

pub returns-in-Turn-clause-moves : goal.returns-in-Turn-clause-moves
returns-in-Turn-clause-moves c = λ values later nodes l before are.
    subst (λ (k : Kind). AreMoves c.args.node c.args.moves.now (before ++ move_by c.args.node k values))
    (sym c.in-Turn.is)
    (subst (AreMoves c.args.node c.args.moves.now) (sym (append-nil before)) are)

pub returns-in-Other-clause-moves : goal.returns-in-Other-clause-moves
returns-in-Other-clause-moves c = λ values later nodes l before are.
    subst (λ (k : Kind). AreMoves c.args.node c.args.moves.now (before ++ move_by c.args.node k values))
    (sym c.in-Other.is)
    (subst (AreMoves c.args.node c.args.moves.now) (sym (append-nil before)) are)

pub returns-in-Move-clause-moves : goal.returns-in-Move-clause-moves
returns-in-Move-clause-moves c = λ values later nodes l before are.
    subst (λ (k : Kind). AreMoves c.args.node c.meet.new.self (before ++ move_by c.args.node k values))
    (sym c.in-Move.is)
    (subst (λ (v : List ℕ). AreMoves c.args.node c.meet.new.self
    (before ++ move_met c.args.node c.in-Move.colour v ∷ []))
    (c.first_value-in-Move.ensures.value values later nodes l) (c.meet.ensures c.args.node before are))
