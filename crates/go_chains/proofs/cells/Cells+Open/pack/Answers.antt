use Rattle.std.proofs.Common.{◌∙◌, ap}
use Rattle.go_board.specs.Packs.{packed_of}
use Rattle.go_board.specs.declared.size.TheConstants.{MAX_LINES}
use Rattle.go_chains.specs.Cells.{CellsValue}
use Rattle.go_chains.specs.Boards.{colouring_of}
use Rattle.go_chains.proofs.cells.Cells+Open.pack.Goals as goal

pub returns : goal.returns
returns c =
    c.pack.ensures ∙ c.self.invariant
    ∙ ap (λ (v : CellsValue). packed_of (colouring_of MAX_LINES v.numbers)) c.self.view_is
