use Rattle.std.proofs.Common.{◌∷◌, [], ℕ, List, ◌∙◌, sym, subst}
use Rattle.go_record.specs.MainLine.{move_met}
use Rattle.go_record.specs.inner.Kinds.{move_by}
use Rattle.go_record.specs.declared.kind.Kind.{Kind}
use Rattle.go_record.specs.inner.Progress.{Walked}
use Rattle.go_record.proofs.state.Walk.visit_move.Goals as goal

pub returns-in-Move-clause-walked : goal.returns-in-Move-clause-walked
returns-in-Move-clause-walked g c = λ values later nodes l.
    subst (λ (k : Kind). Walked c.play_unless_over.result (c.args.self.now, c.args.game.now) (move_by c.args.node k values)
    (c.play_unless_over.new.self, c.play_unless_over.new.game))
    (sym c.in-Move.is)
    (subst (λ (v : List ℕ). Walked c.play_unless_over.result (c.args.self.now, c.args.game.now)
    (move_met c.args.node c.in-Move.colour v ∷ []) (c.play_unless_over.new.self, c.play_unless_over.new.game))
    (c.first_value.ensures.value values later nodes l) c.play_unless_over.ensures)
