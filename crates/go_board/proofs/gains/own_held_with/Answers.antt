use Rattle.std.proofs.Common.{rules, ◌+◌, ◌*◌, Some, slice_set}
use Rattle.go_board.proofs.HeldSets.{own_kept}
use Rattle.go_board.proofs.gains.own_held_with.Goals as goal

pub returns-then-has_place-clause-held : goal.returns-then-has_place-clause-held
returns-then-has_place-clause-held c g colour whole empty held own theirs =
    own_kept c.args.lines g colour c.args.own_held.now c.args.row c.args.col c.requires.row c.requires.col whole empty
    held (c.has_place.ensures.0 c.if-has_place.true)

pub returns-clause-held : goal.returns-clause-held
returns-clause-held c g colour whole empty held own theirs =
    c.held.ensures (slice_set g (c.args.row * c.args.lines + c.args.col) (Some colour)) colour own theirs

pub returns-clause-same : goal.returns-clause-same
returns-clause-same c = search rules
