-- What contracts see of a board, and the colouring that its cells say.
use Rattle.std.specs.Prelude.{ℕ, List, ◌≡◌, Some, map}
use Rattle.go_board.specs.declared.colour.Colour.{Colour}
use Rattle.go_board.specs.declared.point.Point.{Point}
use Rattle.go_board.specs.Colours.{Colouring, colour_at}
use Rattle.go_board.specs.Grids.{GridValue}
use Rattle.go_board.specs.Packs.{colour_coded}
use Rattle.go_board.specs.Points.{number_of}
use Rattle.go_board.specs.Reaching.{points}
use Rattle.go_chains.specs.Cells.{code_at}
use Rattle.go_chains.specs.declared.change.Change.{Change}

-- what contracts see of a board: its lines, its cells, and all writes to them
pub record BoardValue : Type 0 where
  pub lines : ℕ
  pub cells : List ℕ
  pub trace : List Change

-- the colouring that the numbers of colour cells say on a board of n lines
unfoldable pub colouring_of : ℕ → List ℕ → Colouring
colouring_of n cells = map (λ p. colour_coded (code_at cells p)) (points n)

-- the colouring of a board
abbrev pub grid_of : BoardValue → Colouring
grid_of b = colouring_of b.lines b.cells

-- the colours of a board as a grid
abbrev pub shown : BoardValue → GridValue
shown b = record { lines = b.lines; colours = grid_of b }

-- p holds a stone
abbrev pub IsStoneOf : Colouring → ℕ → Type 0
IsStoneOf g p = (c : Colour) × (colour_at g p ≡ Some c)

-- the point p of a board holds a stone
abbrev pub HoldsStone : BoardValue → Point → Type 0
HoldsStone b p = IsStoneOf (grid_of b) (number_of b.lines p)
