use Rattle.go_sgf.specs.Rectangles.{points_of_row}
use Rattle.go_sgf.proofs.Rectangles.{row_pushed}
use Rattle.go_sgf.proofs.points.push_rows.Goals as goal

pub loop-number-preserved : goal.loop-number-preserved
loop-number-preserved g c =
    row_pushed (points_of_row c.args.rectangle) c.loop-number.number c.args.points.now.items c.loop-number.points.items
    c.push_row.new.points.items
    c.row.result c.loop-number.invariant c.row.ensures c.in_ok-push_row.ensures
