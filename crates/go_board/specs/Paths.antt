-- Paths of points, by their numbers in point order on a board of n lines: what a reader must believe.
use Rattle.std.specs.Prelude.{◌≡◌, ◌<◌, ◌*◌, ℕ, List, [], ◌∷◌, Option, IsTrue}
use Rattle.go_board.specs.declared.colour.Colour.{Colour}
use Rattle.go_board.specs.Colours.{Colouring, colour_at}
use Rattle.go_board.specs.Points.{are_beside, point_at}

-- two points of the board share a side
abbrev pub IsAdjacent : ℕ → ℕ → ℕ → Type 0
IsAdjacent n p q = (p < n * n) × (q < n * n) × IsTrue (are_beside (point_at n p) (point_at n q))

-- each point of the path is adjacent to the one before it and has its colour, and the last is q
abbrev pub Leads : ℕ → Colouring → ℕ → List ℕ → ℕ → Type 0
Leads n g p [] q = p ≡ q
Leads n g p (r ∷ path) q = IsAdjacent n p r × (colour_at g r ≡ colour_at g p) × Leads n g r path q

-- a path of points of one colour joins them
abbrev pub Joined : ℕ → Colouring → ℕ → ℕ → Type 0
Joined n g p q = (path : List ℕ) × Leads n g p path q

-- a path of points of p's colour leads from p to a point adjacent to one coloured c
abbrev pub Reaches : ℕ → Colouring → ℕ → Option Colour → Type 0
Reaches n g p c = (q r : ℕ) × Joined n g p q × IsAdjacent n q r × (colour_at g r ≡ c)
