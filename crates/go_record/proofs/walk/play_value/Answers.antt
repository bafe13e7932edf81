use Rattle.std.proofs.Common.{◌∙◌, sym, subst, ap}
use Rattle.std.specs.Prelude.{Err}
use Rattle.go_record.specs.Walks.{Plays}
use Rattle.go_game.specs.Standings.{Standing}
use Rattle.go_record.proofs.Walking.{plays_bad, plays_legal, plays_refused, reason_of}
use Rattle.go_record.proofs.walk.play_value.Goals as goal

pub returns-in_default-clause-err : goal.returns-in_default-clause-err
returns-in_default-clause-err g c = λ some events.
    plays_bad c.args.game.now.standing c.args.node c.args.colour c.args.value.now events
    ((rw c.size.ensures.lines at (sym c.point_of.ensures.value)) ∙ c.in_default.is)

pub returns-in-Ok-clause-ok : goal.returns-in-Ok-clause-ok
returns-in-Ok-clause-ok g c = λ events outcome h.
    let s = c.args.game.now.standing in
    plays_legal s c.args.node c.args.colour c.args.value.now c.in-Some.vertex events outcome
    ((rw c.size.ensures.lines at (sym c.point_of.ensures.value)) ∙ c.in-Some.is)
    c.in-Ok.ensures.legal (subst (λ (t : Standing). Plays t events outcome) c.in-Ok.ensures.played h)

pub returns-in-Err-clause-err : goal.returns-in-Err-clause-err
returns-in-Err-clause-err g c = λ some events.
    let s = c.args.game.now.standing in
    let told = c.refusal.ensures some in
    plays_refused s c.args.node c.args.colour c.args.value.now c.in-Some.vertex events (Err c.refusal.result)
    ((rw c.size.ensures.lines at (sym c.point_of.ensures.value)) ∙ c.in-Some.is)
    (record {
      why = c.in-Err.why;
      reason = reason_of s c.args.colour c.in-Some.vertex c.in-Err.why c.play.result c.in-Err.is told.1
          c.play.ensures.off_board c.play.ensures.occupied c.play.ensures.repeats;
      refusal = ap Err (rw c.move_count-count.ensures at told.0);
    })
