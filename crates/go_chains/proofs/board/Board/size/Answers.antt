use Rattle.std.proofs.Common.{length, ap, sym, ◌∙◌}
use Rattle.go_chains.specs.Boards.{grid_of}
use Rattle.go_chains.proofs.rules.Sound.{length-colouring}
use Rattle.go_chains.proofs.board.Board.size.Goals as goal

pub returns-clause-whole : goal.returns-clause-whole
returns-clause-whole g c = ap (λ b. length (grid_of b)) (sym c.self.view_is)
    ∙ length-colouring c.self.inside.size c.self.inside.cells.numbers
