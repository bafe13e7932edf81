use Rattle.std.specs.Prelude.{is_some}
use Rattle.std.specs.List.{list_any}
use Rattle.std.proofs.Common.{◌∙◌, not, ap, sym}
use Rattle.go_game.specs.Standings.{GameValue}
use Rattle.go_game.proofs.Vacant.{no_moves, vacant_is}
use Rattle.go_game.proofs.game.Game.is_vacant.Goals as goal

pub returns-then-move_count-eq0 : goal.returns-then-move_count-eq0
returns-then-move_count-eq0 g c =
    let s = c.args.self.now.standing in
    vacant_is c.is_vacant.result s.start s.moves
    (no_moves s.moves (sym c.move_count.ensures ∙ c.if-move_count-eq0.true))
    (c.is_vacant.ensures ∙ ap (λ (v : GameValue). not (list_any is_some v.standing.start)) c.self.view_is)
