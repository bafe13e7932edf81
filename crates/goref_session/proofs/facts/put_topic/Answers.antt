use Rattle.std.proofs.Common.{rules}
use Rattle.goref_session.proofs.facts.put_topic.Goals as goal

pub returns-in-Record : goal.returns-in-Record
returns-in-Record g c = rw c.in-Record.is c.put_game.ensures

pub returns-in-Release : goal.returns-in-Release
returns-in-Release g c = search rules

pub returns-in-Board : goal.returns-in-Board
returns-in-Board g c = search rules
