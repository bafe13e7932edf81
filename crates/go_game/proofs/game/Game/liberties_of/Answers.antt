use Rattle.std.proofs.Common.{◌∙◌, ℕ, Option, ap, sym, length}
use Rattle.go_board.specs.declared.colour.Colour.{Colour}
use Rattle.go_board.specs.Chains.{liberties}
use Rattle.go_board.specs.Colours.{Colouring, colour_at}
use Rattle.go_board.specs.Points.{number_of}
use Rattle.go_game.specs.Standings.{GameValue, board_of}
use Rattle.go_game.proofs.Keeping.{liberties_of_stone, seen_as, some_of}
use Rattle.go_game.proofs.game.Game.liberties_of.Goals as goal

pub liberties_of-requires-clause-stone : goal.liberties_of-requires-clause-stone
liberties_of-requires-clause-stone g c =
    let f : ℕ → Colouring → Option Colour = λ n k. colour_at k (number_of n c.args.p) in
    let seen = seen_as f c.self.invariant.0
    ∙ ap (λ (v : GameValue). f v.standing.lines (board_of v.standing)) c.self.view_is in
    let some = some_of c.colour_at.result c.if-is_none.ensures in
    (some.0, seen ∙ sym c.colour_at.ensures ∙ some.1)

pub returns : goal.returns
returns g c =
    let f : ℕ → Colouring → ℕ = λ n k. length (liberties n k (number_of n c.args.p)) in
    let seen = seen_as f c.self.invariant.0
    ∙ ap (λ (v : GameValue). f v.standing.lines (board_of v.standing)) c.self.view_is in
    let s = c.args.self.now.standing in
    let some = some_of c.colour_at.result c.if-is_none.ensures in
    c.liberties_of.ensures ∙ seen ∙ liberties_of_stone s.lines (board_of s) (number_of s.lines c.args.p) some.0
    (sym c.colour_at.ensures ∙ some.1)
