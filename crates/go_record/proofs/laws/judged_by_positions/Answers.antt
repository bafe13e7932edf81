use Rattle.go_record.proofs.SoundGames.{games_positional}
use Rattle.go_record.proofs.laws.judged_by_positions.Goals as goal

pub returns : goal.returns
returns c = games_positional
