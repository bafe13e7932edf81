use Rattle.std.specs.Prelude.{pos, ◌-ℤ◌}
use Rattle.std.proofs.Common.{arith, ◌∙◌, ◌+◌, ◌*◌, Some, ap₂, sym, subst, slice_set}
use Rattle.std.proofs.lemmas.Int.{ints}
use Rattle.go_board.specs.declared.colour.Colour.{Colour}
use Rattle.go_board.specs.Colours.{other}
use Rattle.go_board.specs.Rows.{AreHeld}
use Rattle.go_game.proofs.Holding.{other-other, own_grows, theirs_stay}
use Rattle.go_game.proofs.holdings.Holdings.lead_counted.Goals as goal

pub returns : goal.returns
returns c g colour hold empty =
    let n = c.args.lines in
    let row = c.args.row in
    let col = c.args.col in
    let own = c.args.self.now.own in
    let law = c.points_by_number.ensures in
    let after = slice_set g (row * n + col) (Some colour) in
    let stones = own_grows law n row col g colour hold.whole c.requires.row c.requires.col empty own
    c.put_place.new.rows hold.own c.put_place.ensures in
    let theirs = theirs_stay law n row col g colour hold.whole c.requires.row c.requires.col empty
    c.args.self.now.theirs hold.theirs in
    let own_held = c.own_held_with-own_held.ensures.held g colour hold.whole empty hold.own_held stones theirs in
    let theirs_held = c.theirs_held_with-theirs_held.ensures.held g colour hold.whole empty hold.theirs_held stones
    theirs in
    let area = c.count_alone.ensures after colour own_held theirs_held in
    let theirs_area = c.count_alone-2.ensures after (other colour) theirs_held
    (subst (λ (d : Colour). AreHeld n after d c.own_held_with-own_held.result) (sym (other-other colour))
    own_held) in
    omega (arith, ints, c.ahead.ensures ∙ ap₂ (λ a b. pos a -ℤ pos b) area theirs_area, c.ahead.type_inv)
