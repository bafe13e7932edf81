-- Texts that private functions write.
use Rattle.std.specs.Prelude.{ℕ, List, ◌∷◌}
use Rattle.go_board.specs.declared.point.Point.{Point}
use Rattle.go_board.specs.Grids.{GridValue}
use Rattle.go_board.specs.Points.{number_of}
use Rattle.goref_results.specs.ChainLines.{chain_line}
use Rattle.goref_results.specs.Places.{point_word}

-- the word of a point, after a space
abbrev pub spaced_point : Point → List ℕ
spaced_point p = 32 ∷ point_word p

-- the line of a chain, of a point of a grid
abbrev pub line_of_chain : GridValue → Point → List ℕ
line_of_chain g p = chain_line g.lines g.colours (number_of g.lines p)
