use Rattle.go_board.specs.Points.{number_of}
use Rattle.go_board.proofs.Clearing.{place_moves, place_takes_own, place_takes_theirs}
use Rattle.go_board.proofs.plain.place.Goals as goal

pub returns-clause-colours : goal.returns-clause-colours
returns-clause-colours c = place_moves c.args.grid.now.lines c.set.new.self.lines c.clear-theirs.new.grid.lines
    (number_of c.args.grid.now.lines c.args.p) c.args.colour c.other.result c.args.grid.now.colours
    c.set.new.self.colours c.clear-theirs.new.grid.colours c.clear-own.new.grid.colours c.set.ensures.lines
    c.clear-theirs.ensures.lines c.set.ensures.colours c.other.ensures c.clear-theirs.ensures.colours
    c.clear-own.ensures.colours

pub returns-clause-theirs : goal.returns-clause-theirs
returns-clause-theirs c = place_takes_theirs c.args.grid.now.lines c.set.new.self.lines c.clear-theirs.new.grid.lines
    (number_of c.args.grid.now.lines c.args.p) c.clear-theirs.result c.args.colour c.other.result
    c.args.grid.now.colours c.set.new.self.colours c.clear-theirs.new.grid.colours c.clear-own.new.grid.colours
    c.set.ensures.lines c.clear-theirs.ensures.lines c.set.ensures.colours c.other.ensures
    c.clear-theirs.ensures.colours c.clear-own.ensures.colours c.clear-theirs.ensures.taken

pub returns-clause-own : goal.returns-clause-own
returns-clause-own c = place_takes_own c.args.grid.now.lines c.set.new.self.lines c.clear-theirs.new.grid.lines
    (number_of c.args.grid.now.lines c.args.p) c.clear-own.result c.args.colour c.other.result c.args.grid.now.colours
    c.set.new.self.colours c.clear-theirs.new.grid.colours c.clear-own.new.grid.colours c.set.ensures.lines
    c.clear-theirs.ensures.lines c.set.ensures.colours c.other.ensures c.clear-theirs.ensures.colours
    c.clear-own.ensures.colours c.clear-own.ensures.taken
