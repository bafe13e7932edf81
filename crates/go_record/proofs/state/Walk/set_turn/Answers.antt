use Rattle.std.proofs.Common.{◌≡◌, ◌∙◌, sym, false}
use Rattle.std.specs.Prelude.{None}
use Rattle.go_record.specs.MainLine.{turn}
use Rattle.go_record.specs.inner.Progress.{WalkedGame, is_nothing}
use Rattle.go_record.proofs.Walking.{met, none_met, passes_event, passes_over, passes_turn_playing, seen_turn, sets_turn, sets_turn_bad, stops_event}
use Rattle.go_record.proofs.state.Walk.set_turn.Goals.{then-is_over-via-then-is_over, then-is_over-via-else-is_over+then-self}
use Rattle.go_record.proofs.state.Walk.set_turn.Goals as goal

pub returns-then-is_over : goal.returns-then-is_over
returns-then-is_over c = λ game.
    let w : WalkedGame = (c.args.self.now, game) in
    elim c.then-is_over.branch [
      | then-is_over-via-then-is_over v ↦ passes_over w (sym c.is_over.ensures ∙ v.if-is_over.true) _
      | then-is_over-via-else-is_over+then-self v ↦
          passes_turn_playing w game (met w v.if-self.true) c.args.node c.args.value.now
    ]

pub returns-in-Some : goal.returns-in-Some
returns-in-Some c = λ game.
    let w : WalkedGame = (c.args.self.now, game) in
    let none = none_met w c.if-self.false in
    let live : is_nothing w.0.remaining ≡ false = sym c.is_over.ensures ∙ c.if-is_over.false in
    passes_event {w = w} None None (turn c.args.node c.args.value.now) none none
    (seen_turn w.0.remaining live c.args.node c.args.value.now)
    (λ events outcome h. sets_turn w.0.grid.lines w.0.komi w.0.grid.colours w.0.given_mover c.args.node c.args.value.now
    c.in-Some.colour events outcome
    (sym c.colour_of.ensures ∙ c.in-Some.is) h)

pub returns-in-None : goal.returns-in-None
returns-in-None c = λ game.
    let w : WalkedGame = (c.args.self.now, game) in
    let none = none_met w c.if-self.false in
    let live : is_nothing w.0.remaining ≡ false = sym c.is_over.ensures ∙ c.if-is_over.false in
    stops_event None w.0.remaining (turn c.args.node c.args.value.now) none
    (seen_turn w.0.remaining live c.args.node c.args.value.now)
    (λ some events. sets_turn_bad w.0.grid.lines w.0.komi w.0.grid.colours w.0.given_mover c.args.node c.args.value.now events
    (sym c.colour_of.ensures ∙ c.in-None.is))
