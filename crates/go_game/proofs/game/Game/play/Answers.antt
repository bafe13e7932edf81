use Rattle.std.proofs.Common.{rules}
use Rattle.go_game.proofs.game.Game.play.Goals as goal

pub returns-clause-costs : goal.returns-clause-costs
returns-clause-costs g c = search rules

pub returns-then-is_some-clause-costs : goal.returns-then-is_some-clause-costs
returns-then-is_some-clause-costs g c = search rules

pub returns-in-Pass-clause-costs : goal.returns-in-Pass-clause-costs
returns-in-Pass-clause-costs g c = search rules

pub returns-in-Pass-clause-played : goal.returns-in-Pass-clause-played
returns-in-Pass-clause-played g c = search rules

pub returns-clause-repeats : goal.returns-clause-repeats
returns-clause-repeats g c = search rules
