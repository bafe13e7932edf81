use Rattle.std.proofs.Common.{◌∙◌, sym}
use Rattle.go_board.proofs.Empty.{alive_without_stones}
use Rattle.go_board.proofs.plain.first_dead.Goals as goal

pub returns-then-is_vacant-clause-none : goal.returns-then-is_vacant-clause-none
returns-then-is_vacant-clause-none c =
    alive_without_stones c.args.grid.now.lines c.args.grid.now.colours (sym c.is_vacant.ensures ∙ c.if-is_vacant.true)
