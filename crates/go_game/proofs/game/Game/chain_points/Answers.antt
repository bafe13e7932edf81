use Rattle.std.proofs.Common.{◌≡◌, ◌∙◌, ℕ, List, Option, ap, map}
use Rattle.go_board.specs.declared.colour.Colour.{Colour}
use Rattle.go_board.specs.declared.point.Point.{Point}
use Rattle.go_board.specs.Chains.{members}
use Rattle.go_board.specs.Colours.{Colouring, colour_at}
use Rattle.go_board.specs.Points.{number_of, point_at}
use Rattle.go_chains.specs.Boards.{grid_of}
use Rattle.go_game.specs.Standings.{GameValue, board_of}
use Rattle.go_game.proofs.Keeping.{seen_as, some_of}
use Rattle.go_game.proofs.game.Game.chain_points.Goals as goal

pub chain_points-requires-clause-stone : goal.chain_points-requires-clause-stone
chain_points-requires-clause-stone g c =
    let f : ℕ → Colouring → Option Colour = λ n k. colour_at k (number_of n c.args.p) in
    let seen = seen_as f c.self.invariant.0
    ∙ ap (λ (v : GameValue). f v.standing.lines (board_of v.standing)) c.self.view_is in
    let s = c.args.self.now.standing in
    let some = some_of (colour_at (board_of s) (number_of s.lines c.args.p)) c.requires.stone in
    (some.0, seen ∙ some.1)

pub returns : goal.returns
returns g c =
    let f : ℕ → Colouring → List Point = λ n k. map (point_at n) (members n k (number_of n c.args.p)) in
    let b = c.self.inside.board in
    let s = c.args.self.now.standing in
    let seen : f b.lines (grid_of b) ≡ f s.lines (board_of s) = seen_as f c.self.invariant.0
    ∙ ap (λ (v : GameValue). f v.standing.lines (board_of v.standing)) c.self.view_is in
    ◌∙◌ {b = f b.lines (grid_of b)} c.chain_points.ensures seen
