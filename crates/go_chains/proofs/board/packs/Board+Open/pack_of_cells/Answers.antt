use Rattle.std.proofs.Common.{◌∙◌, ap}
use Rattle.go_board.specs.Packs.{packed_of}
use Rattle.go_board.specs.declared.size.TheConstants.{MAX_LINES}
use Rattle.go_chains.specs.Boards.{BoardValue, colouring_of}
use Rattle.go_chains.proofs.board.packs.Board+Open.pack_of_cells.Goals as goal

pub returns : goal.returns
returns c = c.pack.ensures ∙ ap (λ (b : BoardValue). packed_of (colouring_of MAX_LINES b.cells)) c.self.view_is
