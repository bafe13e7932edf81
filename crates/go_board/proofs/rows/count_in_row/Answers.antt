use Rattle.go_board.proofs.RowCounts.{alone_counted}
use Rattle.go_board.proofs.rows.count_in_row.Goals as goal

pub returns-clause-counted : goal.returns-clause-counted
returns-clause-counted c = alone_counted c.args.own c.args.theirs c.ranges.own.fits c.ranges.theirs.fits
