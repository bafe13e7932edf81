use Rattle.std.proofs.Common.{◌≡◌, ◌∙◌, ap, length, map, sym, subst, rules}
use Rattle.go_chains.specs.Sound.{IsKept}
use Rattle.go_chains.specs.Boards.{colouring_of}
use Rattle.go_game.specs.inner.Held.{made_of}
use Rattle.go_game.specs.Standings.{GameValue, board_of}
use Rattle.go_game.proofs.Counting.{as_many}
use Rattle.go_game.proofs.Keeping.{grid_is}
use Rattle.go_game.proofs.Trails.{went_kept}
use Rattle.go_game.proofs.game.Game.size.Goals as goal

pub returns-clause-kept : goal.returns-clause-kept
returns-clause-kept g c =
    let t = c.self.invariant.0.tracked in
    subst (λ (v : GameValue). IsKept v.standing.lines v.cells) c.self.view_is
    (went_kept c.self.inside.start.lines t.first (map made_of c.self.inside.steps.items) c.self.inside.log
    c.self.inside.board.cells t.kept t.went).0

pub returns-clause-colours : goal.returns-clause-colours
returns-clause-colours g c =
    let t = c.self.invariant.0.tracked in
    subst (λ (v : GameValue). colouring_of v.standing.lines v.cells ≡ board_of v.standing) c.self.view_is
    (ap (λ n. colouring_of n c.self.inside.board.cells) (sym t.lines) ∙ grid_is t)

pub returns-clause-changes : goal.returns-clause-changes
returns-clause-changes g c =
    subst (λ (v : GameValue). length v.changes ≡ length v.standing.moves) c.self.view_is
    (as_many (map made_of c.self.inside.steps.items) c.self.inside.log)

pub returns-clause-lines : goal.returns-clause-lines
returns-clause-lines g c = search rules
