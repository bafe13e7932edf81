use Rattle.std.proofs.Common.{arith, None, ◌*◌}
use Rattle.std.proofs.lemmas.List.{take-replicate}
use Rattle.go_board.specs.declared.size.TheConstants.{MAX_POINTS}
use Rattle.go_board.specs.lemmas.Squares.{square-le}
use Rattle.go_board.proofs.grid.Grid.new.Goals as goal

pub returns-clause-colours : goal.returns-clause-colours
returns-clause-colours c = take-replicate (c.args.size * c.args.size) MAX_POINTS None
    (square-le c.args.size (omega arith))
