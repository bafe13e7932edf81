use Rattle.std.proofs.Common.{◌∙◌, ℕ, Bool, Option, ap, sym}
use Rattle.go_board.specs.declared.colour.Colour.{Colour}
use Rattle.go_board.specs.Colours.{Colouring, colour_at}
use Rattle.go_board.specs.Points.{number_of}
use Rattle.go_board.specs.Reaching.{is_liberty_of}
use Rattle.go_game.specs.Standings.{GameValue, board_of}
use Rattle.go_game.proofs.Keeping.{seen_as, some_of}
use Rattle.go_game.proofs.game.Game.is_liberty.Goals as goal

pub is_liberty-requires-2-clause-p_stone : goal.is_liberty-requires-2-clause-p_stone
is_liberty-requires-2-clause-p_stone g c =
    let f : ℕ → Colouring → Option Colour = λ n k. colour_at k (number_of n c.args.p) in
    let seen = seen_as f c.self.invariant.0
    ∙ ap (λ (v : GameValue). f v.standing.lines (board_of v.standing)) c.self.view_is in
    let some = some_of c.colour_at.result c.if-is_none.ensures in
    (some.0, seen ∙ sym c.colour_at.ensures ∙ some.1)

pub returns : goal.returns
returns g c =
    let f : ℕ → Colouring → Bool = λ n k. is_liberty_of n k (number_of n c.args.p) (number_of n c.args.q) in
    let seen = seen_as f c.self.invariant.0
    ∙ ap (λ (v : GameValue). f v.standing.lines (board_of v.standing)) c.self.view_is in
    c.is_liberty-2.ensures ∙ seen
