use Rattle.std.proofs.Common.{arith, ◌∙◌, ap, map, rules, sym}
use Rattle.go_board.specs.PackBytes.{bytes_of}
use Rattle.go_board.specs.Packs.{packed_of}
use Rattle.go_board.specs.declared.colour.Colour.TheVariants.{Black}
use Rattle.go_game.specs.inner.Held.{made_of}
use Rattle.go_game.proofs.Beginning.{keeping_empty}
use Rattle.go_game.proofs.Placing.{placed_start}
use Rattle.go_game.proofs.game.Game.resize.Goals as goal

pub invariant_of-self : goal.invariant_of-self
invariant_of-self g c = (
  keeping_empty c.packs_tell_colourings_apart.ensures c.args.size (omega arith, omega arith) c.key-key.result
      c.new-self-inside.ensures.lines c.new-self-inside.ensures.colours c.self.invariant.0.held.sound.komi
      c.clear.ensures.lines c.clear.ensures.colours c.clear.ensures.kept c.new.ensures c.new-2.ensures.items
      c.restart.ensures (
        ap bytes_of c.key-key.ensures.pack ∙ c.pack.ensures
            ∙ ap packed_of (c.clear.ensures.colours ∙ sym c.new-self-inside.ensures.colours),
        c.key-key.ensures.mover,
      ),
  placed_start c.self.inside.superko c.new-self-inside.result.lines c.new-self-inside.result.colours Black
      c.none-self-inside.result (map made_of c.new-2.result.items) (ap (map made_of) c.new-2.ensures.items),
)

pub returns-clause-count : goal.returns-clause-count
returns-clause-count g c = search rules
