use Rattle.std.proofs.Common.{arith, ◌∙◌, ap, map, rules}
use Rattle.go_board.specs.PackBytes.{bytes_of}
use Rattle.go_game.specs.declared.superko.Superko.TheVariants.{Positional}
use Rattle.go_board.specs.declared.colour.Colour.TheVariants.{Black}
use Rattle.go_game.specs.inner.Held.{made_of}
use Rattle.go_game.proofs.Beginning.{keeping_empty, komi_none}
use Rattle.go_game.proofs.Placing.{placed_start}
use Rattle.go_game.proofs.game.Game.new.Goals as goal

pub invariant_of-result : goal.invariant_of-result
invariant_of-result g c = (
  keeping_empty c.packs_tell_colourings_apart.ensures c.args.size (omega arith, omega arith) c.key.result
      c.new-start.ensures.lines c.new-start.ensures.colours komi_none
      c.new.ensures.lines c.new.ensures.colours c.new.ensures.kept c.new-2.ensures c.new-4.ensures.items
      c.new-history.ensures (ap bytes_of c.key.ensures.pack ∙ c.pack.ensures, c.key.ensures.mover),
  placed_start Positional c.new-start.result.lines c.new-start.result.colours Black c.none.result
      (map made_of c.new-4.result.items) (ap (map made_of) c.new-4.ensures.items),
)

pub returns-clause-count : goal.returns-clause-count
returns-clause-count g c = search rules
