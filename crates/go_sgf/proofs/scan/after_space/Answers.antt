use Rattle.std.proofs.Common.{rules}
use Rattle.go_sgf.proofs.Scanning.{space_steps}
use Rattle.go_sgf.proofs.scan.after_space.Goals as goal

pub returns-in-Some : goal.returns-in-Some
returns-in-Some c = search (rules, space_steps)
