use Rattle.std.proofs.Common.{rules}
use Rattle.goref_session.proofs.commands.setup.clear_board.Goals as goal

pub returns : goal.returns
returns g c = search rules
