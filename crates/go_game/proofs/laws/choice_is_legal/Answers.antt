use Rattle.std.proofs.Common.{refl}
use Rattle.go_game.specs.Choices.{chosen}
use Rattle.go_game.proofs.ChoiceRule.{rule_legal}
use Rattle.go_game.proofs.laws.choice_is_legal.Goals as goal

pub returns : goal.returns
returns c s colour = rule_legal s colour (chosen s colour)
    ((c.choice_by_the_rule.ensures s colour (chosen s colour)).0 refl)
