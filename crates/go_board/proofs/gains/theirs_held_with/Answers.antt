use Rattle.std.proofs.Common.{◌∙◌, ◌+◌, ◌*◌, Some, slice_set, subst, sym, true≢false}
use Rattle.go_board.specs.declared.colour.Colour.{Colour}
use Rattle.go_board.specs.Colours.{other}
use Rattle.go_board.specs.Rows.{AreStones}
use Rattle.go_board.proofs.Gaining.{other_twice}
use Rattle.go_board.proofs.HeldSets.{theirs_kept}
use Rattle.go_board.proofs.gains.theirs_held_with.Goals as goal

pub returns-then-not-has_place-clause-held : goal.returns-then-not-has_place-clause-held
returns-then-not-has_place-clause-held c g colour whole empty held own theirs =
    theirs_kept c.args.lines g colour c.args.theirs_held.now c.args.row c.args.col c.requires.row c.requires.col whole
    empty held
    (λ inside. true≢false (sym (c.has_place.ensures.1 inside) ∙ c.if-not-has_place.true))

pub returns-clause-held : goal.returns-clause-held
returns-clause-held c g colour whole empty held own theirs =
    let after = slice_set g (c.args.row * c.args.lines + c.args.col) (Some colour) in
    c.held.ensures after (other colour) theirs
    (subst (λ (d : Colour). AreStones c.args.lines after d c.args.own.now) (sym (other_twice colour)) own)
