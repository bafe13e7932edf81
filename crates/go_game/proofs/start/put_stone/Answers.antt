use Rattle.std.proofs.Common.{◌≡◌, ◌≤◌, ◌∙◌, ◌+◌, ◌*◌, ℕ, Some, ap, sym, subst, length, slice_set}
use Rattle.go_board.specs.Colours.{colour_at}
use Rattle.go_board.specs.Points.{number_of}
use Rattle.go_board.specs.Reaching.{moved}
use Rattle.go_chains.specs.Boards.{grid_of}
use Rattle.go_chains.specs.Playing.{most_of}
use Rattle.go_game.specs.inner.Building.{IsFilledTo}
use Rattle.go_game.proofs.Building.{filled_stone, moved_part}
use Rattle.go_game.proofs.Filling.{grown, most_put}
use Rattle.go_game.proofs.start.put_stone.Goals as goal

pub returns-in-Ok-clause-filled : goal.returns-in-Ok-clause-filled
returns-in-Ok-clause-filled g c =
    let n = c.args.grid.now.lines in
    let colours = c.args.grid.now.colours in
    let now = grid_of c.args.board.now in
    let i = c.args.number in
    let colour = c.in-Some.colour in
    let at : number_of n c.numbered-at.result ≡ i =
    ap (λ m. number_of m c.numbered-at.result) (sym c.size.ensures.lines) ∙ c.numbered-at.ensures.back in
    let whole : length colours ≡ n * n = c.size.ensures.whole ∙ ap (λ m. let k : ℕ = m * m in k) c.size.ensures.lines in
    let stone : colour_at colours i ≡ Some colour = ap (colour_at colours) (sym at) ∙ sym c.get.ensures
    ∙ c.in-Some.is in
    let more = filled_stone n colours now i colour c.requires.number whole stone c.requires.filled in
    let is : grid_of c.play.new.self ≡ slice_set now i (Some colour) =
    c.in-Ok.ensures.moved ∙ ap (λ m. moved m now colour (number_of m c.numbered-at.result)) c.requires.lines
    ∙ ap (moved n now colour) at
    ∙ moved_part c.reaches_by_a_path.ensures n now colours colour i c.requires.filled.whole c.requires.alive more.1 in
    subst (IsFilledTo n colours (i + 1)) (sym is) more.0

pub returns-in-Ok-clause-writes : goal.returns-in-Ok-clause-writes
returns-in-Ok-clause-writes g c =
    let n = c.args.grid.now.lines in
    let colours = c.args.grid.now.colours in
    let now = grid_of c.args.board.now in
    let i = c.args.number in
    let colour = c.in-Some.colour in
    let logged = c.in-Ok.ensures.costs.logged in
    let at : number_of n c.numbered-at.result ≡ i =
    ap (λ m. number_of m c.numbered-at.result) (sym c.size.ensures.lines) ∙ c.numbered-at.ensures.back in
    let whole : length colours ≡ n * n = c.size.ensures.whole ∙ ap (λ m. let k : ℕ = m * m in k) c.size.ensures.lines in
    let stone : colour_at colours i ≡ Some colour = ap (colour_at colours) (sym at) ∙ sym c.get.ensures
    ∙ c.in-Some.is in
    let most = ap (λ m. most_of m now colour (number_of m c.numbered-at.result)) c.requires.lines
    ∙ ap (most_of n now colour) at in
    grown c.args.board.now.trace c.play.new.self.trace logged.changes (most_of n now colour i) _ logged.traced
    (subst (λ (k : ℕ). let few : Type 0 = length logged.changes ≤ k in few) most logged.few)
    (most_put c.reaches_by_a_path.ensures n colours now i colour c.requires.number whole c.requires.alive stone
    c.requires.filled)
