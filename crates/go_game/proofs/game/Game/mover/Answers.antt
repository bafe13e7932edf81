use Rattle.std.proofs.Common.{◌≡◌, ◌∙◌, ◌-◌, List, Some, ap, length, subst, sym}
use Rattle.std.specs.List.{slice_get}
use Rattle.go_game.specs.declared.step.Step.{Step}
use Rattle.go_game.specs.Standings.{GameValue, mover_of}
use Rattle.go_game.proofs.Played.{mover_last}
use Rattle.go_game.proofs.game.Game.mover.Goals as goal

pub returns-in-Some : goal.returns-in-Some
returns-in-Some g c =
    let last = subst (λ (xs : List Step). slice_get xs (length xs - 1) ≡ Some c.in-Some.step.now) c.deref.ensures.value
    (sym c.in-Some.ensures.value) in
    c.other.ensures ∙ mover_last c.self.inside.first c.self.inside.steps.items c.in-Some.step.now last
    ∙ ap (λ (v : GameValue). mover_of v.standing) c.self.view_is
