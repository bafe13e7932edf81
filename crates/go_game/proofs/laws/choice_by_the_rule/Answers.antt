use Rattle.go_game.proofs.ChoiceRule.{choice_rule}
use Rattle.go_game.proofs.laws.choice_by_the_rule.Goals as goal

pub returns : goal.returns
returns c s colour = choice_rule s colour c.points_by_number.ensures.number c.points_by_number.ensures.back
    c.points_by_number.ensures.on c.points_by_number.ensures.same
