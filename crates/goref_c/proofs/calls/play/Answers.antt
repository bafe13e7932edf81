use Rattle.std.proofs.Common.{rules}
use Rattle.goref_c.proofs.calls.play.Goals as goal

pub returns : goal.returns
returns c = (c.play_on-status.result.1, search rules, c.put-2.ensures)
