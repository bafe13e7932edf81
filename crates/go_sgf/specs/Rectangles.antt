-- The points of a value, as rows of neighbouring columns.
use Rattle.std.specs.Prelude.{ℕ, ◌+◌, List, map}
use Rattle.std.specs.List.{flat_map, range_with_len}
use Rattle.go_board.specs.declared.point.Point.{Point}

-- what contracts see of a rectangle: its first column and row, and how many it has of each
pub record RectangleValue : Type 0 where
  pub column : ℕ
  pub columns : ℕ
  pub row : ℕ
  pub rows : ℕ

-- this number of points of a row, from a column on
abbrev pub row_from : ℕ → ℕ → ℕ → List Point
row_from row column count = map (λ c. record { col = c; row = row }) (range_with_len column count)

-- the points of one of its rows, by the row's number from the lowest on
abbrev pub points_of_row : RectangleValue → ℕ → List Point
points_of_row r k = row_from (r.row + k) r.column r.columns

-- all of its points: row by row from the lowest, each from the left
abbrev pub listed : RectangleValue → List Point
listed r = flat_map (points_of_row r) (range_with_len 0 r.rows)
