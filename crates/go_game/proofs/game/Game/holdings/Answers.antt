use Rattle.std.proofs.Common.{◌∙◌, ℕ, ap, subst}
use Rattle.go_board.specs.Colours.{Colouring}
use Rattle.go_game.specs.inner.Trials.{AreHoldings}
use Rattle.go_game.specs.Standings.{GameValue, board_of}
use Rattle.go_game.proofs.Keeping.{seen_as}
use Rattle.go_game.proofs.game.Game.holdings.Goals as goal

pub returns : goal.returns
returns g c =
    let f : ℕ → Colouring → ℕ × Colouring = λ n k. (n, k) in
    let seen = seen_as f c.self.invariant.0
    ∙ ap (λ (v : GameValue). f v.standing.lines (board_of v.standing)) c.self.view_is in
    subst (λ (p : ℕ × Colouring). AreHoldings p.0 p.1 c.args.colour c.new.result) seen c.new.ensures
