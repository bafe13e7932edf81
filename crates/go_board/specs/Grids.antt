-- Grids as contracts see them, and what they say of points.
use Rattle.std.specs.Prelude.{ℕ, Bool, List, Option, length, map}
use Rattle.go_board.specs.declared.colour.Colour.{Colour}
use Rattle.go_board.specs.declared.point.Point.{Point}
use Rattle.go_board.specs.Chains.{is_first_of_chain, liberties, members}
use Rattle.go_board.specs.Colours.{Colouring, colour_at}
use Rattle.go_board.specs.Points.{number_of, point_at}
use Rattle.go_board.specs.Reaching.{is_liberty_of, joined}

-- what contracts see of a grid: the lines of its board, and the colour of each point
pub record GridValue : Type 0 where
  pub lines : ℕ
  pub colours : Colouring

-- the colour of p, or none
abbrev pub stone_at : GridValue → Point → Option Colour
stone_at g p = colour_at g.colours (number_of g.lines p)

-- the stones on p and q are of one chain
abbrev pub are_joined : GridValue → Point → Point → Bool
are_joined g p q = joined g.lines g.colours (number_of g.lines p) (number_of g.lines q)

-- q is a liberty of the chain of p
abbrev pub has_liberty : GridValue → Point → Point → Bool
has_liberty g p q = is_liberty_of g.lines g.colours (number_of g.lines p) (number_of g.lines q)

-- the stones of the chain of p, in point order
abbrev pub chain_stones : GridValue → Point → List Point
chain_stones g p = map (point_at g.lines) (members g.lines g.colours (number_of g.lines p))

-- its liberties, in point order
abbrev pub chain_liberties : GridValue → Point → List Point
chain_liberties g p = map (point_at g.lines) (liberties g.lines g.colours (number_of g.lines p))

-- how many stones the chain of p has
abbrev pub stone_count : GridValue → Point → ℕ
stone_count g p = length (members g.lines g.colours (number_of g.lines p))

-- how many liberties the chain of p has
abbrev pub liberty_count : GridValue → Point → ℕ
liberty_count g p = length (liberties g.lines g.colours (number_of g.lines p))

-- p holds the first stone of its chain
abbrev pub is_first_stone : GridValue → Point → Bool
is_first_stone g p = is_first_of_chain g.lines g.colours (number_of g.lines p)
