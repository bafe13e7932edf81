use Rattle.go_board.specs.lemmas.Writing.{writes_then}
use Rattle.go_board.specs.declared.point.Point.{Point}
use Rattle.goref_results.specs.inner.Texts.{spaced_point}
use Rattle.goref_results.proofs.Listing.{taken_more}
use Rattle.goref_results.proofs.results.put_points.Goals as goal

pub loop-point-preserved : goal.loop-point-preserved
loop-point-preserved g c =
    let origin : Point = record { col = 0; row = 0 } in
    writes_then _ c.loop-point.invariant
    c.put_spaced.ensures
    (taken_more spaced_point c.args.points.now c.loop-point.point-index origin c.loop-point-test.true)
