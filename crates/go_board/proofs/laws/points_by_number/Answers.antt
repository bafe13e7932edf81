use Rattle.go_board.proofs.Numbers.{IsOn-point_at, number_of-lt, number_of-point_at, point_at-number_of}
use Rattle.go_board.proofs.laws.points_by_number.Goals as goal

pub returns : goal.returns
returns c = record { number = number_of-lt; back = point_at-number_of; on = IsOn-point_at; same = number_of-point_at }
