-- A set of points as a mark for each.
use Rattle.std.specs.Prelude.{ℕ, Bool, List, map}
use Rattle.std.specs.List.{range_with_len}
use Rattle.go_board.specs.PointSets.{has_point}
use Rattle.go_board.specs.declared.size.TheConstants.{MAX_POINTS}

-- for each point of the largest board, whether the set has it
unfoldable pub marks_of : List ℕ → List Bool
marks_of set = map (has_point set) (range_with_len 0 MAX_POINTS)
