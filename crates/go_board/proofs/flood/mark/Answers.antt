use Rattle.std.proofs.Common.{◌≡◌, false, ap, ◌∙◌, sym, get_or}
use Rattle.go_board.proofs.Marks.{mark_grows}
use Rattle.go_board.proofs.flood.mark.Goals as goal

pub returns-then-not-marks-place-clause-grows : goal.returns-then-not-marks-place-clause-grows
returns-then-not-marks-place-clause-grows c =
    let clear : get_or c.args.marks.now c.args.number false ≡ false =
    ap (λ k. get_or c.args.marks.now k false) (sym c.from-place.ensures) ∙ c.if-not-marks-place.true in
    rw (c.push.ensures.items, c.from-place.ensures)
    (mark_grows c.args.marks.now c.args.waiting.now.items c.args.number c.requires.on c.requires.room clear)
