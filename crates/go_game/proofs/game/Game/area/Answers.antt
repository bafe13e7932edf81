use Rattle.std.proofs.Common.{◌∙◌, ℕ, ap}
use Rattle.go_board.specs.declared.colour.Colour.TheVariants.{Black, White}
use Rattle.go_board.specs.Colours.{Colouring}
use Rattle.go_board.specs.Reaching.{area}
use Rattle.go_game.specs.Standings.{GameValue, board_of}
use Rattle.go_game.proofs.Keeping.{seen_as}
use Rattle.go_game.proofs.game.Game.area.Goals as goal

pub returns-clause-black : goal.returns-clause-black
returns-clause-black g c =
    let f : ℕ → Colouring → ℕ = λ n k. area n k Black in
    let seen = seen_as f c.self.invariant.0
    ∙ ap (λ (v : GameValue). f v.standing.lines (board_of v.standing)) c.self.view_is in
    c.area.ensures.black ∙ seen

pub returns-clause-white : goal.returns-clause-white
returns-clause-white g c =
    let f : ℕ → Colouring → ℕ = λ n k. area n k White in
    let seen = seen_as f c.self.invariant.0
    ∙ ap (λ (v : GameValue). f v.standing.lines (board_of v.standing)) c.self.view_is in
    c.area.ensures.white ∙ seen
