use Rattle.std.proofs.Common.{◌∙◌, ap, map}
use Rattle.go_board.specs.PackBytes.{bytes_of}
use Rattle.go_game.specs.Standings.{GameValue}
use Rattle.go_game.specs.inner.Held.{made_of}
use Rattle.go_game.proofs.Beginning.{keeping_by}
use Rattle.go_game.proofs.Placing.{placed_start}
use Rattle.go_game.proofs.game.Game.set_superko.Goals as goal

pub invariant_of-self : goal.invariant_of-self
invariant_of-self g c = (
  keeping_by c.packs_tell_colourings_apart.ensures c.args.superko c.key-key.result c.self.invariant.0
      (ap (λ (v : GameValue). v.standing.moves) c.self.view_is ∙ c.requires)
      c.restart.ensures (ap bytes_of c.key-key.ensures.pack ∙ c.pack.ensures, c.key-key.ensures.mover),
  placed_start c.args.superko c.self.inside.start.lines c.self.inside.start.colours c.self.inside.first
      c.self.inside.placed (map made_of c.self.inside.steps.items)
      (ap (λ (v : GameValue). v.standing.moves) c.self.view_is ∙ c.requires),
)
