use Rattle.std.proofs.Common.{◌∙◌, ℕ, ap}
use Rattle.go_board.specs.Colours.{Colouring}
use Rattle.go_game.specs.Standings.{GameValue, board_of}
use Rattle.go_game.proofs.Keeping.{seen_as}
use Rattle.go_game.proofs.game.Game.present.Goals as goal

pub returns-clause-colours : goal.returns-clause-colours
returns-clause-colours g c =
    let f : ℕ → Colouring → Colouring = λ n k. k in
    let seen = seen_as f c.self.invariant.0
    ∙ ap (λ (v : GameValue). f v.standing.lines (board_of v.standing)) c.self.view_is in
    c.grid.ensures.colours ∙ seen
