use Rattle.std.proofs.Common.{arith, refl}
use Rattle.go_board.proofs.Growing.{alike, differ, grown, grown_more, grown_same, grown_closed}
use Rattle.go_board.proofs.rows.grow.Goals as goal

pub returns-clause-spread : goal.returns-clause-spread
returns-clause-spread c = grown c.args.marks.now c.args.free.now c.args.row c.beside.result _
    (omega (arith, c.told-marks, c.requires)) refl c.beside.ensures.from c.beside.ensures.all (c.fits-free c.args.row)

pub returns-clause-more : goal.returns-clause-more
returns-clause-more c test = grown_more c.args.marks.now c.args.free.now c.args.row c.beside.result _
    (omega (arith, c.told-marks, c.requires)) refl c.beside.ensures.from c.beside.ensures.all (c.fits-free c.args.row)
    (differ _ _ test)

pub returns-clause-same : goal.returns-clause-same
returns-clause-same c test = grown_same c.args.marks.now c.args.free.now c.args.row c.beside.result _
    (omega (arith, c.told-marks, c.requires)) refl c.beside.ensures.from c.beside.ensures.all (c.fits-free c.args.row)
    (alike _ _ test)

pub returns-clause-closed : goal.returns-clause-closed
returns-clause-closed c test = grown_closed c.args.marks.now c.args.free.now c.args.row c.beside.result _
    (omega (arith, c.told-marks, c.requires)) refl c.beside.ensures.from c.beside.ensures.all (c.fits-free c.args.row)
    (alike _ _ test)
