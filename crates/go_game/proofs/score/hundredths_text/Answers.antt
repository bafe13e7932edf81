use Rattle.std.proofs.Common.{rules}
use Rattle.go_game.proofs.score.hundredths_text.Goals as goal

pub returns-then-hundredths-lt0 : goal.returns-then-hundredths-lt0
returns-then-hundredths-lt0 c = search rules
