use Rattle.std.proofs.Common.{◌≡◌, ◌∙◌, sym, false}
use Rattle.std.specs.Prelude.{None, Some}
use Rattle.go_record.specs.MainLine.{stones}
use Rattle.go_record.specs.inner.Progress.{WalkedGame, is_nothing}
use Rattle.go_record.proofs.Walking.{met, none_met, passes_event, plays_stones, seen_stones, sets_stones, sets_stones_bad, stops_event}
use Rattle.go_record.proofs.state.Walk.set_stones.Goals as goal

pub returns-then-self-clause-walked : goal.returns-then-self-clause-walked
returns-then-self-clause-walked c = λ vs later nodes l game.
    let w : WalkedGame = (c.args.self.now, game) in
    let live : is_nothing w.0.remaining ≡ false = sym c.is_over.ensures ∙ c.if-is_over.false in
    stops_event (Some game) w.0.remaining (stones c.args.node c.args.colour vs) (met w c.if-self.true)
    (seen_stones w.0.remaining live c.args.node c.args.colour vs)
    (λ other events. plays_stones game.standing c.args.node c.args.colour vs events)

pub returns-in-None-clause-walked : goal.returns-in-None-clause-walked
returns-in-None-clause-walked c = λ vs later nodes l game.
    let w : WalkedGame = (c.args.self.now, game) in
    let live : is_nothing w.0.remaining ≡ false = sym c.is_over.ensures ∙ c.if-is_over.false in
    stops_event None w.0.remaining (stones c.args.node c.args.colour vs) (none_met w c.if-self.false)
    (seen_stones w.0.remaining live c.args.node c.args.colour vs)
    (λ other events. sets_stones_bad w.0.grid.lines w.0.komi w.0.grid.colours w.0.given_mover c.args.node c.args.colour vs
    events (c.in-None.ensures.bad vs later nodes l))

pub returns-in-Some-clause-walked : goal.returns-in-Some-clause-walked
returns-in-Some-clause-walked c = λ vs later nodes l game.
    let w : WalkedGame = (c.args.self.now, game) in
    let none = none_met w c.if-self.false in
    let live : is_nothing w.0.remaining ≡ false = sym c.is_over.ensures ∙ c.if-is_over.false in
    let set = c.in-Some.ensures.set vs later nodes l in
    passes_event {w = w} None None (stones c.args.node c.args.colour vs) none none
    (seen_stones w.0.remaining live c.args.node c.args.colour vs)
    (λ events outcome h. sets_stones w.0.grid.lines w.0.komi w.0.grid.colours w.0.given_mover c.args.node c.args.colour vs
    set.0 events outcome set.1
    (rw (c.set_points.ensures.lines, set.2) at h))
