use Rattle.go_record.proofs.SoundGames.{games_sound}
use Rattle.go_record.proofs.laws.sound_games.Goals as goal

pub returns : goal.returns
returns c = games_sound
