use Rattle.std.proofs.Common.{◌≡◌, ap, Err, rules}
use Rattle.go_game.specs.declared.error.SetupError.TheVariants.{NoLiberty}
use Rattle.go_game.proofs.game.Game.start_from.Goals as goal

pub returns-in-Err-clause-no_liberty : goal.returns-in-Err-clause-no_liberty
returns-in-Err-clause-no_liberty g c = λ p e.
    let is : c.in-Err.why ≡ NoLiberty p = cc in
    (c.in-Err.ensures.no_liberty p (ap Err is)).0

pub returns-in-Ok-clause-count : goal.returns-in-Ok-clause-count
returns-in-Ok-clause-count g c = search rules
