-- What is decided on the legal plays of a colour.
use Rattle.std.proofs.Common.{◌≡◌, ◌∙◌, Bool, List, Option, Some, refl, sym, ap, inl, inr, subst}
use Rattle.go_board.specs.declared.colour.Colour.{Colour}
use Rattle.go_game.specs.Standings.{Standing}
use Rattle.goref_session.specs.declared.decision.Decision.TheVariants.{Refused, Tells}
use Rattle.goref_session.specs.declared.decision.Fact.TheVariants.{Plays}
use Rattle.goref_session.specs.declared.decision.Refusal.TheVariants.{OutOfMemory}
use Rattle.goref_session.specs.Decisions.{MayDecide, keeps}
use Rattle.goref_session.specs.Play.{decided_legal}
use Rattle.goref_results.specs.Plays.{marked_plays}

pub plays_told : (s s' : Standing) (c : Colour) (o : Option Colour) (plays : List Bool) → o ≡ Some c → s' ≡ s →
    plays ≡ marked_plays s c →
    MayDecide s (decided_legal s o) (record { decision = Tells (Plays plays); standing = s' })
plays_told s s' c o plays asked same is =
    inl (ap (λ x. record { decision = Tells (Plays plays); standing = x }) same
    ∙ ap (λ marks. keeps s (Tells (Plays marks))) is ∙ ap (decided_legal s) (sym asked))

pub no_memory : (s s' : Standing) (c : Colour) (o : Option Colour) → o ≡ Some c → s' ≡ s →
    MayDecide s (decided_legal s o) (record { decision = Refused OutOfMemory; standing = s' })
no_memory s s' c o asked same =
    let P : Option Colour → Type 0 = λ x.
    MayDecide s (decided_legal s x) (record { decision = Refused OutOfMemory; standing = s' }) in
    subst P (sym asked) (inr (refl, ap (λ x. keeps x (Refused OutOfMemory)) same))
