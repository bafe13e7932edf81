use Rattle.std.proofs.Common.{arith}
use Rattle.go_board.proofs.RowBits.{others_bits}
use Rattle.go_board.proofs.rows.others_in_row.Goals as goal

pub returns : goal.returns
returns c col = others_bits c.args.lines c.args.word col (omega (arith, c.requires)) c.ranges.word.fits
