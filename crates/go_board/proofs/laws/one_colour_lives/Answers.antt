use Rattle.go_board.proofs.Alone.{none_dead}
use Rattle.go_board.proofs.laws.one_colour_lives.Goals as goal

pub returns : goal.returns
returns c = λ n g colour e low empty plain k k_low. none_dead n g colour plain e k low empty k_low
