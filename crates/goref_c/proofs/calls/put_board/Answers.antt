use Rattle.std.proofs.Common.{rules, sym}
use Rattle.go_board.specs.Colours.{colour_at}
use Rattle.go_board.specs.Packs.{code_of}
use Rattle.go_game.specs.Standings.{board_of}
use Rattle.goref_c.proofs.Told.{one_more}
use Rattle.goref_c.proofs.calls.put_board.Goals as goal

pub loop-number-preserved : goal.loop-number-preserved
loop-number-preserved c = (
  search rules,
  one_more (λ p. code_of (colour_at (board_of c.args.game.now.standing) p)) c.loop-number.colours c.loop-number.number
      c.from.result c.code_at.result (search rules) (sym c.from.ensures) (search rules) c.loop-number.invariant.1,
)
