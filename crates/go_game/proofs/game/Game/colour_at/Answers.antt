use Rattle.std.proofs.Common.{◌∙◌, ℕ, Option, ap}
use Rattle.go_board.specs.declared.colour.Colour.{Colour}
use Rattle.go_board.specs.Colours.{Colouring, colour_at}
use Rattle.go_board.specs.Points.{number_of}
use Rattle.go_game.specs.Standings.{GameValue, board_of}
use Rattle.go_game.proofs.Keeping.{seen_as}
use Rattle.go_game.proofs.game.Game.colour_at.Goals as goal

pub returns : goal.returns
returns g c =
    let f : ℕ → Colouring → Option Colour = λ n k. colour_at k (number_of n c.args.p) in
    let seen = seen_as f c.self.invariant.0
    ∙ ap (λ (v : GameValue). f v.standing.lines (board_of v.standing)) c.self.view_is in
    c.colour_at.ensures ∙ seen
