use Rattle.std.proofs.Common.{◌*◌, ◌+◌, ◌∙◌, true≢false, sym}
use Rattle.go_board.specs.Colours.{other}
use Rattle.go_board.proofs.Gaining.{gains_nothing, gains_point, held_round}
use Rattle.go_board.proofs.HeldSets.{held_in, held_out, point_low}
use Rattle.go_board.proofs.gains.gain_of.Goals as goal

pub returns-then-not-has_place-2-clause-gain : goal.returns-then-not-has_place-2-clause-gain
returns-then-not-has_place-2-clause-gain c g colour whole empty stones own theirs =
    let n = c.args.lines in
    gains_nothing n g colour (c.args.row * n + c.args.col) whole
    (point_low n c.args.row c.args.col c.requires.row c.requires.col) empty
    (held_in n g colour c.args.own_held.now c.args.row c.args.col own (c.has_place.ensures.0 c.if-not-has_place.false))
    (held_out n g (other colour) c.args.theirs_held.now c.args.row c.args.col c.requires.row c.requires.col theirs
    (λ inside. true≢false (sym (c.has_place-2.ensures.1 inside) ∙ c.if-not-has_place-2.true)))

pub returns-then-are_joined_round-clause-gain : goal.returns-then-are_joined_round-clause-gain
returns-then-are_joined_round-clause-gain c g colour whole empty stones own theirs =
    let n = c.args.lines in
    let low = point_low n c.args.row c.args.col c.requires.row c.requires.col in
    gains_point n g colour (c.args.row * n + c.args.col) whole low empty
    (held_in n g colour c.args.own_held.now c.args.row c.args.col own (c.has_place.ensures.0 c.if-not-has_place.false))
    (held_in n g (other colour) c.args.theirs_held.now c.args.row c.args.col theirs
    (c.has_place-2.ensures.0 c.if-not-has_place-2.false))
    (held_round n g colour c.args.row c.args.col c.args.own.now whole c.requires.row c.requires.col low empty stones
    (c.are_joined_round.ensures c.if-are_joined_round.true))
