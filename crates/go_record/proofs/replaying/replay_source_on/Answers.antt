use Rattle.go_record.proofs.Vacant.{empty_is_vacant}
use Rattle.go_record.proofs.replaying.replay_source_on.Goals as goal

pub returns-in-Err-clause-vacant : goal.returns-in-Err-clause-vacant
returns-in-Err-clause-vacant g c = empty_is_vacant c.clear.new.self.standing _ _ _ c.clear.ensures.start
